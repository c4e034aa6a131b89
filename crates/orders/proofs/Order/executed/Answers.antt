-- One field is changed, and the others stay. Assumes nothing.
use mathlib.Core.Path.{refl}
use Rattle.orders.specs.Order.{executed_by}
use Rattle.orders.proofs.Order.executed.Goals as goal

pub returns : goal.returns
unfolding executed_by
returns c = refl
