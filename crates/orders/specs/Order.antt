-- An order, the steps of its life, and the four numbers of a slot that hold it (01, 'The tables the desk lends', 'What each
-- message does'). Assumes nothing.
use Rattle.std.specs.Prelude.{ℕ, ◌+◌, ◌-◌, ◌*◌, ◌/◌, ◌%◌, ◌≡◌, Bool, cond, ◌&&◌, eqb, leb, ltb, Option, Some, None}
use Rattle.kinds.specs.Admission.{maximum}
use Rattle.kinds.specs.Sides.{side_byte, side_of, good_side}
use Rattle.text.specs.Text.{text}
use Rattle.orders.specs.declared.Order.{Order}

-- ---- a life

-- an order of which nothing is gone yet
pub record Intact (o : Order) : Type 0 where
  pub executed : o.executed ≡ 0
  pub cancelled : o.cancelled ≡ 0
  pub closed : o.closed ≡ 0

-- what remains of an order
unfoldable pub remaining : Order → ℕ
remaining o = o.added - (o.executed + o.cancelled + o.closed)

-- the order with n more shares executed
unfoldable pub executed_by : Order → ℕ → Order
executed_by o n = record {
  reference = o.reference;
  price = o.price;
  added = o.added;
  executed = o.executed + n;
  cancelled = o.cancelled;
  closed = o.closed;
  locate = o.locate;
  side = o.side;
  attribution = o.attribution;
}

-- the order with n more shares cancelled
unfoldable pub cancelled_by : Order → ℕ → Order
cancelled_by o n = record {
  reference = o.reference;
  price = o.price;
  added = o.added;
  executed = o.executed;
  cancelled = o.cancelled + n;
  closed = o.closed;
  locate = o.locate;
  side = o.side;
  attribution = o.attribution;
}

-- the order with all that remains closed
unfoldable pub closed_of : Order → Order
closed_of o = record {
  reference = o.reference;
  price = o.price;
  added = o.added;
  executed = o.executed;
  cancelled = o.cancelled;
  closed = o.closed + remaining o;
  locate = o.locate;
  side = o.side;
  attribution = o.attribution;
}

-- ---- the four numbers of a slot; the first is the reference

-- price x 2^32 + added shares
unfoldable pub second : Order → ℕ
second o = o.price.0 * 4294967296 + o.added

-- executed x 2^32 + cancelled
unfoldable pub third : Order → ℕ
third o = o.executed * 4294967296 + o.cancelled

-- locate x 2^48 + side byte x 2^40 + attribution x 2^8
unfoldable pub fourth : Order → ℕ
fourth o = o.locate.0 * 281474976710656 + side_byte o.side * 1099511627776 + o.attribution * 256

-- a live slot with these numbers is sound: price in range, locate at least 1, side B or S, attribution well formed, the low byte
-- 0, and executed plus cancelled below added
unfoldable pub sound : ℕ → ℕ → ℕ → Bool
sound n1 n2 n3 =
    leb (n1 / 4294967296) maximum && (leb 1 (n3 / 281474976710656) && (good_side (n3 / 1099511627776 % 256)
    && (text 4 (n3 / 256 % 4294967296) && (eqb (n3 % 256) 0 && ltb (n2 / 4294967296 + n2 % 4294967296) (n1 % 4294967296)))))

-- the order that the numbers of a sound slot hold
unfoldable pub order_of : ℕ → ℕ → ℕ → ℕ → Order
order_of n0 n1 n2 n3 = record {
  reference = record { 0 = n0 };
  price = record { 0 = n1 / 4294967296 };
  added = n1 % 4294967296;
  executed = n2 / 4294967296;
  cancelled = n2 % 4294967296;
  closed = 0;
  locate = record { 0 = n3 / 281474976710656 };
  side = side_of (n3 / 1099511627776 % 256);
  attribution = n3 / 256 % 4294967296;
}

-- what a live slot with these numbers holds
unfoldable pub held : ℕ → ℕ → ℕ → ℕ → Option Order
held n0 n1 n2 n3 = cond (sound n1 n2 n3) (Some (order_of n0 n1 n2 n3)) None
