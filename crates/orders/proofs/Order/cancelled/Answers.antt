-- One field is changed, and the others stay. Assumes nothing.
use mathlib.Core.Path.{refl}
use Rattle.orders.specs.Order.{cancelled_by}
use Rattle.orders.proofs.Order.cancelled.Goals as goal

pub returns : goal.returns
unfolding cancelled_by
returns c = refl
