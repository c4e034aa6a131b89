-- The slot's four numbers hold what they hold. Assumes nothing.
use Rattle.slots.specs.Stored.{held_at}
use Rattle.slots.proofs.held_at.Goals as goal

pub returns : goal.returns
unfolding held_at
returns c = cc
