-- What the answer says of an order (01, 'What each message does'). Assumes nothing.
use Rattle.std.specs.Prelude.{ℕ}
use Rattle.orders.specs.declared.Order.{Order}
use Rattle.decide.specs.declared.Figures.{Figures}

-- the order's locate, side and price, the shares taken or put, and what then remains
abbrev pub figures_of : Order → ℕ → ℕ → Figures
figures_of o shares remains =
    record { locate = o.locate; side = o.side; price = o.price; shares = shares; remains = remains }
