-- The sum is the definition, with the side's letter. Assumes nothing.
use native.Mathlib.Omega.{arith}
use Rattle.orders.specs.Order.{fourth}
use Rattle.orders.proofs.Order.fourth.Goals as goal

pub returns : goal.returns
unfolding fourth
returns c = omega arith
