-- The goals that the check leaves. Assumes nothing.
use native.Mathlib.Omega.{arith}
use lib.Count.{trailing_le}
use Rattle.book.specs.Scan as scan
use Rattle.book.specs.Words.{in_dead, in_other, in_yes}
use Rattle.search.proofs.find_sparse.Goals as goal

pub loop-m-init : goal.loop-m-init
loop-m-init c = scan.scan_start _ _ (c.type_inv.numbers c.args.j).fits (λ i l e. in_dead _ _ _ _ i l e)

pub overflow_cast-t : goal.overflow_cast-t
overflow_cast-t c = omega (arith, trailing_le 64 c.loop-m.m)

pub overflow_add-j : goal.overflow_add-j
overflow_add-j c = omega (arith, scan.next_lt c.loop-m.invariant c.loop-m-test.true)

pub overflow_mul-j-in-loop-m : goal.overflow_mul-j-in-loop-m
overflow_mul-j-in-loop-m c = omega (arith, scan.next_lt c.loop-m.invariant c.loop-m-test.true)

pub overflow_add-k : goal.overflow_add-k
overflow_add-k c = omega (arith, scan.next_lt c.loop-m.invariant c.loop-m-test.true)

pub offset_bounds-numbers-k : goal.offset_bounds-numbers-k
offset_bounds-numbers-k c = omega (arith, scan.next_lt c.loop-m.invariant c.loop-m-test.true)

pub bounds-numbers-k : goal.bounds-numbers-k
bounds-numbers-k c = omega (arith, scan.next_lt c.loop-m.invariant c.loop-m-test.true)

pub returns-then-numbers-k : goal.returns-then-numbers-k
returns-then-numbers-k c =
    let i = c.loop-m.invariant in
    let n = c.loop-m-test.true in
    scan.hit i n (in_yes _ _ _ _ _ (scan.next_lt i n) (scan.next_one i n) c.if-numbers-k.true)

pub loop-m-smaller : goal.loop-m-smaller
loop-m-smaller c = scan.less c.loop-m.invariant c.loop-m-test.true

pub loop-m-preserved : goal.loop-m-preserved
loop-m-preserved c =
    scan.step c.loop-m.invariant c.loop-m-test.true (in_other _ _ _ _ _ c.if-numbers-k.false)

pub returns : goal.returns
returns c = scan.scan_done c.loop-m.invariant c.loop-m-test.false
