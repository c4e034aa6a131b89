-- Each of the numbers 0 to 6 is given: bytes that earn it. So no reading that meets the contract refuses everything, and none has
-- one answer for all. Assumes nothing.
use Rattle.std.specs.Prelude.{◌≡◌, List, ℕ, ◌≤◌, Result}
use Rattle.std.proofs.Common.{sym, ap, ◌∙◌, arith}
use Rattle.laws.specs.Facts.{fact_at}
use Rattle.numbers.specs.Shown.{answer_number}
use Rattle.read_theorems.specs.Given.{GivenFor, examples, Meets}
use Rattle.messages.specs.declared.Message.{Message}
use Rattle.refusals.specs.declared.Refusal.{Refusal}

pub all_given : (n : ℕ) → n ≤ 6 → GivenFor n
all_given n l = fact_at examples n (omega arith)

-- what meets the contract accepts something
pub not_all_refused : (f : List ℕ → Result Message Refusal) → Meets f → ((s : List ℕ) → answer_number (f s) ≡ 0 → ⊥) → ⊥
not_all_refused f h n = let g = all_given 0 (omega arith) in n g.bytes (ap answer_number (h g.bytes g.are_bytes) ∙ g.given)

-- and does not give one answer whatever the bytes
pub not_constant : (f : List ℕ → Result Message Refusal) → Meets f → (a : Result Message Refusal) → ((s : List ℕ) → f s ≡ a) → ⊥
not_constant f h a c =
    let p : answer_number a ≡ 0 = of 0 (omega arith) in
    let q : answer_number a ≡ 1 = of 1 (omega arith) in
    omega arith
  where
    of : (n : ℕ) → n ≤ 6 → answer_number a ≡ n
    of n l =
        let g = all_given n l in
        ap answer_number (sym (c g.bytes) ∙ h g.bytes g.are_bytes) ∙ g.given
