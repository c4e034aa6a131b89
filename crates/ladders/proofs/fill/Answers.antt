-- The goals that the check leaves. Assumes nothing.
use mathlib.Core.Path.{sym, ◌∙◌}
use native.Mathlib.Omega.{arith}
use Rattle.ladders.specs.Ladders.{first_of}
use Rattle.ladders.proofs.Filling.{found_lt, start, less, more, full, end}
use Rattle.ladders.proofs.fill.Goals as goal

pub shape_of-out-in_default : goal.shape_of-out-in_default
shape_of-out-in_default c = c.loop-out.invariant.size

pub returns-in_default : goal.returns-in_default
returns-in_default c =
    let l = c.loop-out in
    rw c.first_of.ensures
    (end _ _ _ _ _ l.rung _ l.invariant c.loop-out-test.true (sym c.next_from.ensures ∙ c.in_default.is))

pub put-written-requires : goal.put-written-requires
put-written-requires c =
    let l = c.loop-out in
    let a = c.args in
    omega (arith, found_lt a.book.now l.rung (first_of a.locates) _ _ (sym c.next_from.ensures ∙ c.in-Some.is))

pub overflow_add-rung : goal.overflow_add-rung
overflow_add-rung c =
    let l = c.loop-out in
    let a = c.args in
    omega (arith, found_lt a.book.now l.rung (first_of a.locates) _ _ (sym c.next_from.ensures ∙ c.in-Some.is))

pub loop-out-smaller : goal.loop-out-smaller
loop-out-smaller c =
    let l = c.loop-out in
    let e = c.put-written.ensures in
    less _ _ _ _ _ l.rung _ l.invariant c.loop-out-test.true _ _
    (sym c.next_from.ensures ∙ c.in-Some.is) _ _ e.0 e.1

pub loop-out-preserved : goal.loop-out-preserved
loop-out-preserved c =
    let l = c.loop-out in
    let e = c.put-written.ensures in
    more _ _ _ _ _ l.rung _ l.invariant c.loop-out-test.true _ _
    (sym c.next_from.ensures ∙ c.in-Some.is) _ _ e.0 e.1

pub shape_of-out : goal.shape_of-out
shape_of-out c = c.loop-out.invariant.size

pub returns : goal.returns
returns c = full _ _ _ _ _ c.loop-out.rung _ c.loop-out.invariant c.loop-out-test.false

pub loop-out-init : goal.loop-out-init
loop-out-init c = start _ _ _ _
