-- The sum is the definition. Assumes nothing.
use native.Mathlib.Omega.{arith}
use Rattle.orders.specs.Order.{second}
use Rattle.orders.proofs.Order.second.Goals as goal

pub returns : goal.returns
unfolding second
returns c = omega arith
