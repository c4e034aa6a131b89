-- No more is gone from the order that a slot holds than was added. Assumes nothing.
use Rattle.std.specs.Prelude.{ℕ, ◌+◌, ◌≤◌, ◌≡◌, List, Some}
use Rattle.std.proofs.Common.{arith}
use Rattle.orders.specs.declared.Order.{Order}
use Rattle.orders.specs.OrderLaws.{held-sound}
use Rattle.slots.specs.Stored.{held_at}

pub gone_fits : (b : List ℕ) (k s : ℕ) (o : Order) → held_at b k s ≡ Some o → o.executed + o.cancelled + o.closed ≤ o.added
unfolding held_at
gone_fits b k s o h = let p = held-sound _ _ _ _ o h in omega arith
