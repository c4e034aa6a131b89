-- A refusal is its number alone. Assumes nothing.
use Rattle.std.specs.Prelude.{◌≡◌, refl, Result, Ok, Err}
use Rattle.numbers.specs.Shown.{answer_number}
use Rattle.read_theorems.specs.Statements.{Alone}
use Rattle.messages.specs.declared.Message.{Message}
use Rattle.refusals.specs.declared.Refusal.{Refusal}

-- where it is not 0, the answer is that number alone, and all other numbers are 0
pub refused_alone : (a : Result Message Refusal) → (answer_number a ≡ 0 → ⊥) → Alone a
refused_alone (Ok m) n = absurd (n refl)
refused_alone (Err r) n = record { listed = refl; in_a_row = refl }
