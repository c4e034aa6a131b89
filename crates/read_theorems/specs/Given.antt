-- Each of the numbers 0 to 6 has bytes that earn it, and what a reading must meet. Assumes nothing.
use Rattle.std.specs.Prelude.{◌≡◌, refl, Bool, true, ◌&&◌, List, [], ◌∷◌, ◌++◌, ℕ, ltb, replicate, Result}
use Rattle.laws.specs.Facts.{FactsBelow}
use Rattle.laws.specs.Facts.FactsBelow.{no_facts, ◌▸◌}
use Rattle.laws.specs.Field.{field}
use Rattle.kinds.specs.Admission.{maximum}
use Rattle.kinds.specs.Sides.{good_side}
use Rattle.text.specs.Text.{letter, letters, text}
use Rattle.layout.specs.Layout.{length_of}
use Rattle.wellformed.specs.WellFormed.{good_time, good_shares, good_price, good_printable, refusal}
use Rattle.reader.specs.Read.{judged_as, answer}
use Rattle.numbers.specs.Shown.{answer_number}
use Rattle.messages.specs.declared.Message.{Message}
use Rattle.refusals.specs.declared.Refusal.{Refusal}

-- every number of the list is a byte's
abbrev pub bytes_only : List ℕ → Bool
bytes_only [] = true
bytes_only (b ∷ s) = ltb b 256 && bytes_only s

-- bytes whose answer has the number n
pub record GivenFor (n : ℕ) : Type 0 where
  pub bytes : List ℕ
  pub are_bytes : bytes_only bytes ≡ true
  pub given : answer_number (answer bytes) ≡ n

-- D of zeros; no bytes; Z; D at a time past all days; Y without a stock; U at a price past the maximum; X of no shares
pub examples : FactsBelow GivenFor 7
unfolding answer length_of judged_as refusal field good_time good_shares good_price good_side good_printable text letters letter maximum
examples =
    no_facts
    ▸ record { bytes = 68 ∷ replicate 18 0; are_bytes = refl; given = refl }
    ▸ record { bytes = []; are_bytes = refl; given = refl }
    ▸ record { bytes = 90 ∷ []; are_bytes = refl; given = refl }
    ▸ record { bytes = 68 ∷ replicate 4 0 ++ replicate 14 255; are_bytes = refl; given = refl }
    ▸ record { bytes = 89 ∷ replicate 19 0; are_bytes = refl; given = refl }
    ▸ record { bytes = 85 ∷ replicate 30 0 ++ replicate 4 255; are_bytes = refl; given = refl }
    ▸ record { bytes = 88 ∷ replicate 22 0; are_bytes = refl; given = refl }

-- f reads bytes as the contract of `read` asks
abbrev pub Meets : (List ℕ → Result Message Refusal) → Type 0
Meets f = (s : List ℕ) → bytes_only s ≡ true → f s ≡ answer s
