-- The goals that the check leaves. Assumes nothing.
use native.Mathlib.Omega.{arith}
use Rattle.book.specs.Words.{half, zero_at, no_zero}
use Rattle.book.proofs.free_in.Goals as goal

pub returns-then-rest-eq0 : goal.returns-then-rest-eq0
returns-then-rest-eq0 c = zero_at _ _ _ c.loop-i.invariant c.loop-i-test.true (omega (arith, c.if-rest-eq0.true))

pub loop-i-preserved : goal.loop-i-preserved
loop-i-preserved c = half _ _ _ c.loop-i.invariant c.loop-i-test.true c.if-rest-eq0.false

pub returns : goal.returns
returns c = no_zero _ _ _ c.loop-i.invariant c.loop-i-test.false
