-- The rules of `Text` as implications, so that no one else has to open it: each goes by cases on the tests that the
-- definition makes of the last byte. Assumes nothing.
use Rattle.std.specs.Prelude.{ℕ, zero, suc, ◌+◌, ◌*◌, ◌/◌, ◌%◌, ◌≤◌, ◌≡◌, refl, ◌⊎◌, Bool, true, false, ◌&&◌, ◌||◌, eqb, leb}
use Rattle.std.proofs.Common.{ap, ◌∙◌, inl, inr, arith, add-zero, add-suc, leb-true, eqb-true, le-leb, eq-eqb}
use Rattle.laws.specs.Bools.{fault}
use Rattle.text.specs.Text.{letter, letters, text}

both_true : (a b : Bool) → a && b ≡ true → (a ≡ true) × (b ≡ true)
both_true true b e = (refl, e)
both_true false b e = (e, (cc))

either_true : (a b : Bool) → a || b ≡ true → (a ≡ true) ⊎ (b ≡ true)
either_true true b e = inl refl
either_true false b e = inr e

either_right : (a : Bool) → a || true ≡ true
either_right true = refl
either_right false = refl

-- ---- a letter, and letters

pub letter_bounds : (b : ℕ) → letter b ≡ true → (33 ≤ b) × (b ≤ 126)
unfolding letter
letter_bounds b e =
    let t = both_true (leb 33 b) (leb b 126) e in
    (leb-true 33 b t.0, leb-true b 126 t.1)

pub letter_of_bounds : (b : ℕ) → 33 ≤ b → b ≤ 126 → letter b ≡ true
unfolding letter
letter_of_bounds b l h = rw (le-leb 33 b l) (le-leb b 126 h)

pub letters_split : (w v : ℕ) → letters (suc w) v ≡ true → (letters w (v / 256) ≡ true) × (letter (v % 256) ≡ true)
unfolding letters
letters_split w v e = both_true (letters w (v / 256)) (letter (v % 256)) e

pub letters_join : (w v : ℕ) → letters w (v / 256) ≡ true → letter (v % 256) ≡ true → letters (suc w) v ≡ true
unfolding letters
letters_join w v p q = rw p q

-- ---- a text

pub text_cases : (w v : ℕ) → text (suc w) v ≡ true
    → (letters (suc w) v ≡ true) ⊎ ((text w (v / 256) ≡ true) × (v % 256 ≡ 32))
unfolding text
text_cases w v e =
    elim (either_true (letters (suc w) v) (text w (v / 256) && eqb (v % 256) 32) e) [
      | inl p ↦ inl p
      | inr q ↦ let t = both_true (text w (v / 256)) (eqb (v % 256) 32) q in inr (t.0, eqb-true (v % 256) 32 t.1)
    ]

pub text_of_letters : (w v : ℕ) → letters (suc w) v ≡ true → text (suc w) v ≡ true
unfolding text
text_of_letters w v p = rw p

pub text_of_space : (w v : ℕ) → text w (v / 256) ≡ true → v % 256 ≡ 32 → text (suc w) v ≡ true
unfolding text
text_of_space w v p q = rw (p, eq-eqb (v % 256) 32 q) (either_right (letters (suc w) v))

pub no_empty_text : (v : ℕ) → text zero v ≡ true → ⊥
unfolding text
no_empty_text v e = let z : ◌≡◌ {A = ℕ} 0 1 = cc in omega arith

-- ---- one more space changes nothing

both_false : (a : Bool) → a && false ≡ false
both_false true = refl
both_false false = refl

both_right : (a : Bool) → a && true ≡ a
both_right true = refl
both_right false = refl

pub text_space : (w v : ℕ) → v % 256 ≡ 32 → text (suc w) v ≡ text w (v / 256)
unfolding text letters letter
text_space w v e = rw (e, both_false (letters w (v / 256))) (both_right (text w (v / 256)))

-- ---- the fault

-- 1 where w bytes are no text, else 0
abbrev pub text_fault : ℕ → ℕ → ℕ
text_fault w v = fault (text w v)

pub fault_space : (w v : ℕ) → v % 256 ≡ 32 → text_fault (suc w) v ≡ text_fault w (v / 256)
unfolding fault
fault_space w v e = ap fault (text_space w v e)

-- v with k spaces behind it
unfoldable pub padded-text : ℕ → ℕ → ℕ
padded-text zero v = v
padded-text (suc k) v = padded-text k v * 256 + 32

pub fault-padded : (k w v : ℕ) → text_fault (w + k) (padded-text k v) ≡ text_fault w v
unfolding padded-text
fault-padded zero w v = rw add-zero
fault-padded (suc k) w v =
    let front : (padded-text k v * 256 + 32) / 256 ≡ padded-text k v = omega arith in
    rw (add-suc w k)
    (fault_space (w + k) (padded-text k v * 256 + 32) (omega arith) ∙ ap (text_fault (w + k)) front ∙ fault-padded k w v)

pub fault_of_text : (w v : ℕ) → text w v ≡ true → text_fault w v ≡ 0
unfolding fault
fault_of_text w v e = ap fault e

pub fault_of_no_text : (w v : ℕ) → (text w v ≡ true → ⊥) → text_fault w v ≡ 1
unfolding fault
fault_of_no_text w v n = go (text w v) n
  where
    go : (t : Bool) → (t ≡ true → ⊥) → fault t ≡ 1
    go true n = absurd (n refl)
    go false n = refl
