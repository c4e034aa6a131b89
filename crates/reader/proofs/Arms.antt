-- The arms of the reader, for any type: the answer of an arm with the letter k, and that a byte which is no arm's
-- letter is no type, by one computed test over the table. Assumes nothing.
use Rattle.std.specs.Prelude.{Result}
use mathlib.Core.Path.{◌≡◌, refl, sym, ap, ◌∙◌}
use mathlib.Core.Bool.{Bool, true, false, ◌&&◌, ◌||◌, false≢true}
use mathlib.Core.List.{List, [], ◌∷◌}
use Prim.Native.Nat.{ℕ}
use borrow.Author.Tests.{eqb-true, ne_eqb}
use lib.Dec.{eqb}
use Rattle.laws.specs.Bools.{and_left, and_right}
use Rattle.layout.specs.Layout.{Row, rows, cells_in, length_of}
use Rattle.messages.specs.declared.Message.{Message}
use Rattle.checked.specs.declared.Checked.{Checked}
use Rattle.parsed.specs.Parsed.{answer_of, IsParsed}
use Rattle.reader.specs.Read.{judged_as}
use Rattle.reader.proofs.Whole.{whole}
use Rattle.messages.specs.declared.Message.{Message}
use Rattle.refusals.specs.declared.Refusal.{Refusal}

-- what was read as the type and judged is the answer
pub right : {t k : ℕ} {s : List ℕ} {p : Checked Message} {r : Result Message Refusal} → t ≡ k → IsParsed k s p → r ≡ answer_of p → r ≡ judged_as t s
right {s = s} e h j = j ∙ whole h ∙ ap (λ (x : ℕ). judged_as x s) (sym e)

-- the arms' letters, the last arm first
abbrev letters : List ℕ
letters = 79 ∷ 78 ∷ 73 ∷ 66 ∷ 81 ∷ 104 ∷ 74 ∷ 75 ∷ 87 ∷ 86 ∷ 76 ∷ 89 ∷ 72 ∷ 82 ∷ 83 ∷ 80 ∷ 67 ∷ 70 ∷ 88 ∷ 69 ∷ 85 ∷ 68 ∷ 65 ∷ []

-- t is none of the letters
abbrev pub NoneOf : ℕ → List ℕ → Type 0
NoneOf t [] = Unit {0}
NoneOf t (k ∷ ks) = NoneOf t ks × (t ≡ k → ⊥)

abbrev among : ℕ → List ℕ → Bool
among x [] = false
among x (k ∷ ks) = eqb x k || among x ks

abbrev all_among : List Row → Bool
all_among [] = true
all_among (r ∷ rs) = among r.letter letters && all_among rs

apart : (t x : ℕ) (ks : List ℕ) → NoneOf t ks → among x ks ≡ true → t ≡ x → ⊥
apart t x [] n e q = false≢true e
apart t x (k ∷ ks) n e q = go (eqb x k) refl e (λ e. apart t x ks n.0 e q)
  where
    go : (b : Bool) → eqb x k ≡ b → b || among x ks ≡ true → (among x ks ≡ true → ⊥) → ⊥
    go true p e rest = n.1 (q ∙ eqb-true x k p)
    go false p e rest = rest e

no_cells : (t : ℕ) → NoneOf t letters → (rs : List Row) → all_among rs ≡ true → cells_in rs t ≡ []
no_cells t n [] e = refl
no_cells t n (r ∷ rs) e =
    rw (ne_eqb t r.letter (apart t r.letter letters n (and_left (among r.letter letters) (all_among rs) e)))
    (no_cells t n rs (and_right (among r.letter letters) (all_among rs) e))

-- a byte that is no arm's letter has no length
pub no_type : {t : ℕ} → NoneOf t letters → 0 ≡ length_of t
unfolding length_of
no_type {t} n = rw (no_cells t n rows refl)
