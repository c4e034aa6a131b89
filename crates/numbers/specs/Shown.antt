-- An answer as numbers in a row of fixed length. Assumes nothing.
use Rattle.refusals.specs.Refusals.{refusal_number}
use Rattle.std.specs.Prelude.{ℕ, zero, suc, List, [], ◌∷◌, Result, Ok, Err}
use Rattle.messages.specs.declared.Message.{Message}
use Rattle.messages.specs.Numbers.{letter_of, values_of}
use Rattle.refusals.specs.declared.Refusal.{Refusal}

-- the first n numbers of a list, with 0 behind its end
abbrev pub padded : ℕ → List ℕ → List ℕ
padded zero v = []
padded (suc n) [] = 0 ∷ padded n []
padded (suc n) (x ∷ v) = x ∷ padded n v

-- the type byte and the fields of a message
abbrev pub message_row : Message → List ℕ
message_row m = padded 18 (letter_of m ∷ values_of m)

-- 01's number of an answer
abbrev pub answer_number : Result Message Refusal → ℕ
answer_number (Ok m) = 0
answer_number (Err r) = refusal_number r

-- the 18 numbers beside it: all 0 for a refusal
abbrev pub answer_row : Result Message Refusal → List ℕ
answer_row (Ok m) = message_row m
answer_row (Err r) = padded 18 []
