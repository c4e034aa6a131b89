-- The order that a message concerns, in the slot that was found for it, or why the message is refused: 10, 13, 8. Assumes nothing.
use Rattle.refusals.specs.declared.Refusal.TheVariants.{Book, Conflict, NoOrder}
use Rattle.std.specs.Prelude.{ℕ, cond, List, eqb, Option, Result, Some, None, Ok, Err}
use Rattle.kinds.specs.declared.Slot.{Slot}
use Rattle.slots.specs.Stored.{held_at}
use Rattle.orders.specs.declared.Order.{Order}
use Rattle.refusals.specs.declared.Refusal.{Refusal}

-- by what the slot holds
abbrev pub concern_in : Slot → ℕ → Option Order → Result (Slot × Order) Refusal
concern_in s locate None = Err Book
concern_in s locate (Some o) = cond (eqb o.locate.0 locate) (Ok (s, o)) (Err Conflict)

unfoldable pub concern_of : List ℕ → ℕ → Option Slot → ℕ → Result (Slot × Order) Refusal
concern_of b k None locate = Err NoOrder
concern_of b k (Some s) locate = concern_in s locate (held_at b k s.0)
