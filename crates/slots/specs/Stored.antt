-- What is seen in the book, and what a verdict stores there (01, 'The tables the desk lends'). Assumes nothing.
use Rattle.std.specs.Prelude.{ℕ, Bool, true, false, cond, List, eqb, Option, Some, None}
use Rattle.book.specs.Book.{find, lowest_free, number_at, put_slot, clear_slot}
use Rattle.orders.specs.declared.Order.{Order}
use Rattle.orders.specs.Order.{held, remaining, second, third, fourth}
use Rattle.decide.specs.Decide.{Verdict, refuse, enter, alter, leave, renew, enroll, pass, Seen, unseen, something}
use Rattle.kinds.specs.declared.Slot.{Slot}

-- what slot s holds
unfoldable pub held_at : List ℕ → ℕ → ℕ → Option Order
held_at b k s = held (number_at b k s 0) (number_at b k s 1) (number_at b k s 2) (number_at b k s 3)

abbrev pub seen_in : List ℕ → ℕ → Option Slot → Seen
seen_in b k (Some s) = something (held_at b k s.0)
seen_in b k None = unseen

abbrev pub is_at : Option Slot → Bool
is_at (Some s) = true
is_at None = false

-- a reference is live
abbrev pub is_live : List ℕ → ℕ → ℕ → Bool
is_live b k r = is_at (find b k r)

-- the slot of a search that found one
abbrev pub slot_of : Option Slot → ℕ
slot_of (Some s) = s.0
slot_of None = 0

-- slot s live with the numbers of the order
unfoldable pub put_order : List ℕ → ℕ → ℕ → Order → List ℕ
put_order b k s o = put_slot b k s o.reference.0 (second o) (third o) (fourth o)

-- the order in the slot that a search for a free one found
abbrev pub placed : List ℕ → ℕ → Order → Option Slot → List ℕ
placed b k o (Some s) = put_order b k s.0 o
placed b k o None = b

-- a new order takes the lowest free slot
unfoldable pub entered : List ℕ → ℕ → Order → List ℕ
entered b k o = placed b k o (lowest_free b k)

-- an order with nothing remaining is removed
unfoldable pub kept : List ℕ → ℕ → ℕ → Order → List ℕ
kept b k s o = cond (eqb (remaining o) 0) (clear_slot b k s) (put_order b k s o)

-- the book after a verdict about the order in slot s; U's old slot counts as free for its new order
abbrev pub stored : List ℕ → ℕ → ℕ → Verdict → List ℕ
stored b k s (refuse n) = b
stored b k s (enter o) = entered b k o
stored b k s (alter o o' n) = kept b k s o'
stored b k s (leave o) = clear_slot b k s
stored b k s (renew o o') = entered (clear_slot b k s) k o'
stored b k s (enroll locate symbol) = b
stored b k s pass = b
