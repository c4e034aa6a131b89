-- Two answers that the contract of `read` allows for the same bytes are one answer, and so are two answers with the same
-- numbers: the numbers say all that an answer says. Assumes nothing.
use Rattle.refusals.specs.Refusals.{refusal_number, number_unique}
use Rattle.std.specs.Prelude.{◌≡◌, List, ℕ, Result, Ok, Err}
use Rattle.std.proofs.Common.{sym, ap, ◌∙◌, arith}
use Rattle.messages.specs.Numbers.{letter_of, values_of, numbers}
use Rattle.messages.specs.TypedLaws.{message_unique}
use Rattle.reader.specs.Read.{answer}
use Rattle.messages.specs.declared.Message.{Message}
use Rattle.refusals.specs.declared.Refusal.{Refusal}

pub answer_unique : (s : List ℕ) (r r' : Result Message Refusal) → r ≡ answer s → r' ≡ answer s → r ≡ r'
answer_unique s r r' p q = p ∙ sym q

pub answer_numbers_unique : (a b : Result Message Refusal) → numbers a ≡ numbers b → a ≡ b
answer_numbers_unique (Ok x) (Ok y) e =
    let t : letter_of x ≡ letter_of y = cc in
    let v : values_of x ≡ values_of y = cc in
    ap Ok (message_unique x y t v)
answer_numbers_unique (Ok x) (Err r) e = let z : ◌≡◌ {A = ℕ} 0 1 = cc in absurd (omega arith)
answer_numbers_unique (Err r) (Ok y) e = let z : ◌≡◌ {A = ℕ} 0 1 = cc in absurd (omega arith)
answer_numbers_unique (Err r) (Err q) e = let n : refusal_number r ≡ refusal_number q = cc in ap Err (number_unique r q n)
