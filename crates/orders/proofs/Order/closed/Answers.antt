-- What was closed and what remains are all that was neither executed nor cancelled. Assumes nothing.
use mathlib.Core.Path.{◌≡◌}
use Prim.Native.Nat.{ℕ, ◌+◌}
use native.Mathlib.Omega.{arith}
use Rattle.orders.specs.declared.Order.{Order}
use Rattle.orders.specs.Order.{remaining, closed_of}
use Rattle.orders.proofs.Order.closed.Goals as goal

all_closed : (o : Order) (n : ℕ) → n ≡ o.closed + remaining o
    → ◌≡◌ {A = Order} (record {
      reference = o.reference;
      price = o.price;
      added = o.added;
      executed = o.executed;
      cancelled = o.cancelled;
      closed = n;
      locate = o.locate;
      side = o.side;
      attribution = o.attribution;
    }) (closed_of o)
unfolding closed_of
all_closed o n e = rw e

pub returns : goal.returns
unfolding remaining
returns c = all_closed c.args.self _ (omega arith)
