-- THE DEFINITION of reading: the answer to any bytes (01, 'When the book says no', 0 to 6). The order of the checks: no bytes
-- LENGTH; TYPE; LENGTH; then TIME, FIELD, PRICE, SHARES over the type's fields. A refusal is its number and nothing else; a
-- message that passes gives every field of document 000, each the big-endian number that stands at its place in the table.
-- Assumes nothing.
use Rattle.std.specs.Prelude.{ℕ, cond, List, eqb, length, get_or, Result, Ok, Err}
use Rattle.refusals.specs.Refusals.{LENGTH, TYPE, refusal_of}
use Rattle.layout.specs.Layout.{cells_of, length_of}
use Rattle.messages.specs.Typed.{message}
use Rattle.wellformed.specs.WellFormed.{refusal, values}
use Rattle.messages.specs.declared.Message.{Message}
use Rattle.refusals.specs.declared.Refusal.{Refusal}

abbrev pub no_message : ℕ → Result Message Refusal
no_message n = Err (refusal_of n)

-- the type byte
abbrev pub type_of : List ℕ → ℕ
type_of s = get_or s 0 0

-- the answer to bytes of the type t and of its length
unfoldable pub judged_as : ℕ → List ℕ → Result Message Refusal
judged_as t s = cond (eqb (refusal s (cells_of t)) 0) (Ok (message t (values s (cells_of t)))) (no_message (refusal s (cells_of t)))

-- the answer to any bytes (a byte that is no type has the length 0)
unfoldable pub answer : List ℕ → Result Message Refusal
answer s =
    cond (eqb (length s) 0) (no_message LENGTH)
    (cond (eqb (length_of (type_of s)) 0) (no_message TYPE)
    (cond (eqb (length s) (length_of (type_of s))) (judged_as (type_of s) s) (no_message LENGTH)))
