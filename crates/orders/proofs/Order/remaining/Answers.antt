-- What three differences leave is what the sum of the three leaves. Assumes nothing.
use native.Mathlib.Omega.{arith}
use Rattle.orders.specs.Order.{remaining}
use Rattle.orders.proofs.Order.remaining.Goals as goal

pub returns : goal.returns
unfolding remaining
returns c = omega arith
