-- The goals that the check leaves. Assumes nothing.
use mathlib.Core.Path.{◌≡◌, sym, ◌∙◌}
use native.Mathlib.Omega.{arith}
use Rattle.store.specs.Store.{big_endian}
use Rattle.store.proofs.Laws.{more}
use Rattle.store.proofs.big_endian.Goals as goal

pub loop-i-preserved : goal.loop-i-preserved
loop-i-preserved c =
    let l = c.loop-i in
    l.invariant ∙ more l.part l.i l.rest c.loop-i-test.true (omega arith)

pub returns : goal.returns
unfolding big_endian
returns c =
    let e : c.loop-i.i ≡ 0 = omega arith in
    sym (rw e at c.loop-i.invariant)
