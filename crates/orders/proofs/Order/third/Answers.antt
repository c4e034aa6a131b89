-- The sum is the definition. Assumes nothing.
use native.Mathlib.Omega.{arith}
use Rattle.orders.specs.Order.{third}
use Rattle.orders.proofs.Order.third.Goals as goal

pub returns : goal.returns
unfolding third
returns c = omega arith
