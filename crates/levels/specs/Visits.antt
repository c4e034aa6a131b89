-- What one pass over the live slots sees: the best price so far of those wanted, with the shares and the orders there, or that a
-- slot is unsound. It goes by slots; Seen.antt ties it to the definitions, which do not. Assumes nothing.
use Rattle.std.specs.Prelude.{ℕ, zero, suc, ◌+◌, Bool, cond, ◌&&◌, List, ◌==◌, nat_le, nat_lt, Option, Some, None}
use Rattle.book.specs.Book.{live}
use Rattle.orders.specs.declared.Order.{Order}
use Rattle.orders.specs.Order.{remaining}
use Rattle.slots.specs.Stored.{held_at}
use Rattle.levels.specs.declared.Wanted.{Wanted}
use Rattle.levels.specs.declared.Best.{Best}
use Rattle.levels.specs.Levels.{same_side}
use Rattle.levels.specs.Ticks.{ticks_to}

-- the order is of the stock and the side, and its price is not before `from` and below `to`
abbrev pub is_wanted : Wanted → Order → Bool
is_wanted w o =
    (o.locate.0 == w.locate.0) && (same_side o.side w.side
    && (nat_le w.from (ticks_to w.side o.price.0) && nat_lt (ticks_to w.side o.price.0) w.to))

-- an order that is wanted stands at `ticks` with so many shares: better than the best so far, as good, or worse
abbrev pub joined : Best → ℕ → ℕ → Best
joined best ticks shares =
    cond (nat_lt ticks best.ticks) (record { ticks = ticks; shares = shares; orders = 1 })
    (cond (ticks == best.ticks) (record { ticks = ticks; shares = best.shares + shares; orders = best.orders + 1 }) best)

unfoldable pub considered : Wanted → Best → Order → Best
considered w best o = cond (is_wanted w o) (joined best (ticks_to w.side o.price.0) (remaining o)) best

abbrev pub seen : Wanted → Option Best → Option Order → Option Best
seen w None h = None
seen w (Some best) None = None
seen w (Some best) (Some o) = Some (considered w best o)

-- nothing seen yet
abbrev pub begun : Wanted → Option Best
begun w = Some (record { ticks = w.to; shares = 0; orders = 0 })

-- after the slots below n
unfoldable pub visited : Wanted → List ℕ → ℕ → ℕ → Option Best
visited w b k zero = begun w
visited w b k (suc n) = cond (live b n == 1) (seen w (visited w b k n) (held_at b k n)) (visited w b k n)
