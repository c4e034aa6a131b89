-- Each way through is what comes of the order, given what the calls on the way ensure. Assumes nothing.
use mathlib.Core.Path.{refl}
use native.Mathlib.Omega.{arith}
use Prim.Native.Nat.{◌≤◌, ◌<◌}
use Rattle.orders.specs.Order.{remaining}
use Rattle.slots.specs.HeldLaws.{gone_fits}
use Rattle.take.proofs.Laws.{more_fits, taken_fits, over, took_all, took_some}
use Rattle.take.proofs.take_from.Goals as goal

pub remaining-requires : goal.remaining-requires
remaining-requires c = gone_fits _ _ _ _ c.requires.1

pub returns-then-remaining-n-clause-takes : goal.returns-then-remaining-n-clause-takes
returns-then-remaining-n-clause-takes c =
    let a = c.args in
    let l : remaining a.o < a.n = omega (arith, c.remaining.ensures, c.if-remaining-n.true) in
    over _ _ _ a.n a.how a.o l refl

pub taken-left-requires : goal.taken-left-requires
taken-left-requires c =
    let l : c.args.n ≤ remaining c.args.o = omega (arith, c.remaining.ensures, c.if-remaining-n.false) in
    more_fits _ _ _ c.args.n c.args.o c.requires.1 l

pub remaining-remains-requires : goal.remaining-remains-requires
remaining-remains-requires c =
    let l : c.args.n ≤ remaining c.args.o = omega (arith, c.remaining.ensures, c.if-remaining-n.false) in
    taken_fits c.args.how c.args.o _ c.args.n (more_fits _ _ _ c.args.n c.args.o c.requires.1 l) c.taken-left.ensures

pub returns-then-remains-eq0-clause-takes : goal.returns-then-remains-eq0-clause-takes
returns-then-remains-eq0-clause-takes c =
    let l : c.args.n ≤ remaining c.args.o = omega (arith, c.remaining.ensures, c.if-remaining-n.false) in
    took_all _ _ _ c.args.n c.args.how c.args.o _ _ _ l c.taken-left.ensures c.remaining-remains.ensures c.figured-figures.ensures
    c.if-remains-eq0.true c.clear.ensures.cleared

pub returns-clause-takes : goal.returns-clause-takes
returns-clause-takes c =
    let l : c.args.n ≤ remaining c.args.o = omega (arith, c.remaining.ensures, c.if-remaining-n.false) in
    took_some _ _ _ c.args.n c.args.how c.args.o _ _ _ l c.taken-left.ensures c.remaining-remains.ensures c.figured-figures.ensures
    c.if-remains-eq0.false c.put_order.ensures.put
