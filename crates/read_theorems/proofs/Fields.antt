-- An accepted message's numbers are its type byte and the numbers of its fields: the typed message gives each number back, type by
-- type. Assumes nothing.
use Rattle.std.specs.Prelude.{◌≡◌, refl, Bool, true, false, cond, ◌||◌, ℕ, eqb, Ok}
use Rattle.std.proofs.Common.{sym, ap, ◌∙◌, eqb-true, eq-eqb}
use mathlib.Core.List.Memᴰ.{head as here}
use mathlib.Core.List.Memᴰ.{tail as there}
use mathlib.Core.List.{List, ◌∷◌, Memᴰ as Among}
use Rattle.kinds.specs.declared.Side.TheVariants.{Buy, Sell}
use Rattle.kinds.specs.Sides.{side_byte, side_of, good_side}
use Rattle.layout.specs.Kind.{Cell, cell}
use Rattle.layout.specs.Kind.Kind.{side}
use Rattle.layout.specs.Layout.{cells_of}
use Rattle.layout.specs.Chained.{printed}
use Rattle.messages.specs.declared.Message.{Message}
use Rattle.messages.specs.Numbers.{letter_of, values_of, numbers}
use Rattle.messages.specs.Typed.{message}
use Rattle.wellformed.specs.WellFormed.{value_at, refusal, values}
use Rattle.reader.specs.Read.{type_of, judged_as, answer}
use Rattle.reader.specs.ReadLaws.{right_length}
use Rattle.numbers.specs.Shown.{padded, answer_number, answer_row}
use Rattle.read_theorems.specs.Statements.{AllGood, Accepted, Fields}
use Rattle.read_theorems.specs.Types.{Each, ◌▹◌, at_type}
use Rattle.read_theorems.specs.Types.Each.{table-end}
use Rattle.read_theorems.specs.Faults.{refusal_found, found_unique}
use Rattle.read_theorems.specs.Faults.FoundFault.{no_fault}
use Rattle.read_theorems.proofs.Exactly.{read_exactly}

-- the byte of a side that is B or S comes back
side_byte_lem : (v : ℕ) → good_side v ≡ true → side_byte (side_of v) ≡ v
unfolding good_side
side_byte_lem v = go (eqb v 66) refl
  where
    go : (b : Bool) → eqb v 66 ≡ b → b || eqb v 83 ≡ true → side_byte (cond b Buy Sell) ≡ v
    go true p e = sym (eqb-true v 66 p)
    go false p e = sym (eqb-true v 83 e)

-- the message that well-formed fields of the type t make has the letter t and those fields
Back : List ℕ → ℕ → Type 0
Back s t = AllGood s (cells_of t) → numbers (Ok (message t (values s (cells_of t)))) ≡ 0 ∷ t ∷ values s (cells_of t)

-- in the order of 01's table: A, F and P have a side as their fifth field, and nothing else is changed on the way
back_each : (s : List ℕ) → Each (Back s) printed
unfolding Back
back_each s =
    (λ g. refl) ▹ (λ g. refl) ▹ (λ g. refl) ▹ (λ g. refl) ▹ (λ g. refl) ▹ (λ g. refl) ▹ (λ g. refl) ▹ (λ g. refl) ▹ (λ g. refl) ▹ (λ g. refl)
    ▹ (λ g. rw (sided g fifth)) ▹ (λ g. rw (sided g fifth)) ▹ (λ g. refl) ▹ (λ g. refl) ▹ (λ g. refl) ▹ (λ g. refl) ▹ (λ g. refl)
    ▹ (λ g. rw (sided g fifth)) ▹ (λ g. refl) ▹ (λ g. refl) ▹ (λ g. refl) ▹ (λ g. refl) ▹ (λ g. refl) ▹ table-end
  where
    fifth : {a b c d : Cell} {cs : List Cell} → Among (cell side 19 1) (a ∷ b ∷ c ∷ d ∷ cell side 19 1 ∷ cs)
    fifth = there (there (there (there (here refl))))

    sided : {cs : List Cell} → AllGood s cs → Among (cell side 19 1) cs → side_byte (side_of (value_at s (cell side 19 1))) ≡ value_at s (cell side 19 1)
    sided g m = side_byte_lem _ (g (cell side 19 1) m)

-- ---- the two kinds of answer

typed_answer : (s : List ℕ) → Accepted s → answer s ≡ Ok (message (type_of s) (values s (cells_of (type_of s))))
unfolding judged_as
typed_answer s w =
    let cs = cells_of (type_of s) in
    let e : refusal s cs ≡ 0 = found_unique (refusal_found s cs) (no_fault refl w.1) in
    right_length s w.0.known w.0.sized ∙ rw (eq-eqb (refusal s cs) 0 e)

row_of_numbers : (m : Message) (t : ℕ) (vs : List ℕ) → numbers (Ok m) ≡ 0 ∷ t ∷ vs → answer_row (Ok m) ≡ padded 18 (t ∷ vs)
row_of_numbers m t vs e = let q : letter_of m ∷ values_of m ≡ t ∷ vs = cc in ap (padded 18) q

-- where the number is 0, the answer is the message of the type's fields, and its numbers are theirs
pub accepted_fields : (s : List ℕ) → answer_number (answer s) ≡ 0 → Fields s
unfolding Back
accepted_fields s e =
    let w = (read_exactly s).done.0 e in
    let t = type_of s in
    let vs = values s (cells_of t) in
    let m = typed_answer s w in
    let l = at_type (Back s) (back_each s) t w.0.known w.1 in
    record { typed = m; listed = ap numbers m ∙ l; in_a_row = ap answer_row m ∙ row_of_numbers (message t vs) t vs l }
