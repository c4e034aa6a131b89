-- The numbers that are stored are the order's. Assumes nothing.
use Rattle.slots.specs.Stored.{put_order}
use Rattle.slots.proofs.put_order.Goals as goal

pub returns-clause-put : goal.returns-clause-put
unfolding put_order
returns-clause-put c = cc
