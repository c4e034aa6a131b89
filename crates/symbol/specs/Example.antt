-- The symbol of ZVZZT, registered at locate 1: the 5 letters from byte 11 of an R, and from byte 15 of an L, after its MPID; and the empty
-- part where another symbol is registered. Assumes nothing.
use Rattle.std.specs.Prelude.{◌≡◌, refl, List, [], ◌∷◌, ◌++◌, ℕ, ◌+◌, replicate}
use Rattle.laws.specs.Field.{field}
use Rattle.kinds.specs.Admission.{maximum}
use Rattle.kinds.specs.Sides.{good_side}
use Rattle.text.specs.Text.{letter, letters, text}
use Rattle.layout.specs.Layout.{length_of}
use Rattle.wellformed.specs.WellFormed.{good_time, good_shares, good_price, good_printable, refusal}
use Rattle.reader.specs.Read.{judged_as, answer}
use Rattle.directory.specs.Directory.{good_length, most_numbers, entry_at}
use Rattle.symbol.specs.Symbol.{stock_at, is_named, unpadded, empty_part, symbol_part}

-- ZVZZT, and the symbol with its three spaces
abbrev pub zvzzt_number : ℕ
zvzzt_number = 0x5A565A5A54202020

abbrev pub zvzzt : List ℕ
zvzzt = 90 ∷ 86 ∷ 90 ∷ 90 ∷ 84 ∷ 32 ∷ 32 ∷ 32 ∷ []

-- the type byte, locate 1, and a tracking number and a time of 0
abbrev pub head : ℕ → List ℕ
head t = t ∷ 0 ∷ 1 ∷ replicate 8 0

pub record Examples : Type 0 where
  pub in_R : symbol_part (0 ∷ zvzzt_number ∷ []) (head 82 ++ zvzzt ++ replicate 20 0) ≡ record { start = 11; len = 5 }
  pub in_L : symbol_part (0 ∷ zvzzt_number ∷ []) (head 76 ++ replicate 4 65 ++ zvzzt ++ replicate 3 0) ≡ record { start = 15; len = 5 }
  pub of_another : symbol_part (0 ∷ (zvzzt_number + 1) ∷ []) (head 82 ++ zvzzt ++ replicate 20 0) ≡ empty_part

pub examples : Examples
unfolding symbol_part is_named stock_at unpadded good_length most_numbers entry_at answer length_of judged_as refusal field good_time good_shares good_price good_side good_printable text letters letter maximum
examples = record { in_R = refl; in_L = refl; of_another = refl }
