-- What reading a message of a type ensures, field by field in the order of the table, and what judging it answers.
-- The facts stand one beside the other in one record for all types, so that each is found by itself. Assumes nothing.
use Rattle.std.specs.Prelude.{ℕ, ◌≡◌, cond, List, eqb, length, Result, Ok, Err}
use Rattle.laws.specs.Lists.{nth}
use Rattle.refusals.specs.declared.Refusal.{Refusal}
use Rattle.refusals.specs.Refusals.{refusal_of}
use Rattle.layout.specs.Layout.{cells_of}
use Rattle.messages.specs.declared.Message.{Message}
use Rattle.messages.specs.Numbers.{letter_of, values_of}
use Rattle.wellformed.specs.FaultSum.{faults, shows, held_values}
use Rattle.checked.specs.declared.Checked.{Checked}

unfoldable pub answer_of : Checked Message → Result Message Refusal
answer_of p = cond (eqb p.faults 0) (Ok p.value) (Err (refusal_of (shows p.faults)))

-- field i of the message p holds what field i of type t reads as
abbrev pub HoldsField : ℕ → List ℕ → Checked Message → ℕ → Type 0
HoldsField t s p i = nth (values_of p.value) i ≡ nth (held_values s (cells_of t)) i

pub record IsParsed (t : ℕ) (s : List ℕ) (p : Checked Message) : Type 0 where
  pub summed : p.faults ≡ faults s (cells_of t)
  pub letter : letter_of p.value ≡ t
  pub size : length (values_of p.value) ≡ length (cells_of t)
  pub v0 : HoldsField t s p 0
  pub v1 : HoldsField t s p 1
  pub v2 : HoldsField t s p 2
  pub v3 : HoldsField t s p 3
  pub v4 : HoldsField t s p 4
  pub v5 : HoldsField t s p 5
  pub v6 : HoldsField t s p 6
  pub v7 : HoldsField t s p 7
  pub v8 : HoldsField t s p 8
  pub v9 : HoldsField t s p 9
  pub v10 : HoldsField t s p 10
  pub v11 : HoldsField t s p 11
  pub v12 : HoldsField t s p 12
  pub v13 : HoldsField t s p 13
  pub v14 : HoldsField t s p 14
  pub v15 : HoldsField t s p 15
  pub v16 : HoldsField t s p 16
