-- The goals that the check leaves. Assumes nothing.
use native.Mathlib.Omega.{arith}
use Rattle.symbol.proofs.Laws.{one_less, counted, all_spaces}
use Rattle.symbol.proofs.unpadded_len.Goals as goal

pub returns-then-rest-ne32 : goal.returns-then-rest-ne32
returns-then-rest-ne32 c =
    let l = c.loop-n in
    counted _ _ _ l.invariant c.loop-n-test.true c.if-rest-ne32.true

pub loop-n-preserved : goal.loop-n-preserved
loop-n-preserved c = one_less _ _ _ c.loop-n.invariant c.loop-n-test.true (omega (arith, c.if-rest-ne32.false))

pub returns : goal.returns
returns c = all_spaces _ _ _ c.loop-n.invariant (omega (arith, c.loop-n-test.false))
