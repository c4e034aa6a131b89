-- What the unpadded length of a text means of its bytes: so many of them, at least one, are letters, and each after them is a
-- space. By induction on the width, with the last byte of a field as its last digit. Assumes nothing.
use Rattle.std.specs.Prelude.{ℕ, zero, suc, ◌+◌, ◌/◌, ◌%◌, ◌≤◌, ◌<◌, ◌≡◌, Bool, true, false, cond, List, eqb, get_or}
use Rattle.std.proofs.Common.{sym, ◌∙◌, inl, inr, arith, eq-eqb, ne_eqb}
use Rattle.std.proofs.Math.Decide.{dec_lt}
use Rattle.laws.specs.Field.{field}
use Rattle.text.specs.Text.{letters, text}
use Rattle.text.specs.TextLaws.{letter_bounds, letters_split, text_cases, no_empty_text}
use Rattle.text.specs.TextMeaning.{IsLetter}
use Rattle.symbol.specs.Symbol.{unpadded}

-- of the w bytes of s from `at` on, the first n are letters, at least one, and the others are spaces
pub record Unpadded (s : List ℕ) (at w n : ℕ) : Type 0 where
  pub some : 1 ≤ n
  pub within : n ≤ w
  pub front : (i : ℕ) → i < n → IsLetter (get_or s (at + i) 0)
  pub back : (i : ℕ) → n ≤ i → i < w → get_or s (at + i) 0 ≡ 32

-- ---- the cases of `unpadded`

pub after_space : (w v : ℕ) → v % 256 ≡ 32 → unpadded (suc w) v ≡ unpadded w (v / 256)
unfolding unpadded
after_space w v e = rw (eq-eqb (v % 256) 32 e)

pub no_space : (w v : ℕ) → (v % 256 ≡ 32 → ⊥) → unpadded (suc w) v ≡ suc w
unfolding unpadded
no_space w v n = rw (ne_eqb (v % 256) 32 n)

pub unpadded-le : (w v : ℕ) → unpadded w v ≤ w
unfolding unpadded
unpadded-le zero v = omega arith
unpadded-le (suc w) v = go (eqb (v % 256) 32) (unpadded-le w (v / 256))
  where
    go : (b : Bool) → unpadded w (v / 256) ≤ w → cond b (unpadded w (v / 256)) (suc w) ≤ suc w
    go true l = omega arith
    go false l = omega arith

-- ---- the bytes of a field

module _ (s : List ℕ) (at : ℕ) (bytes : (i : ℕ) → get_or s i 0 < 256) where
  last_byte : (w : ℕ) → field s at (suc w) % 256 ≡ get_or s (at + w) 0
  unfolding field
  last_byte w = omega (arith, bytes (at + w))

  front_bytes : (w : ℕ) → field s at (suc w) / 256 ≡ field s at w
  unfolding field
  front_bytes w = omega (arith, bytes (at + w))

  -- a fact of each byte, from that of the last and of those before it
  each : (P : ℕ → ℕ → Type 0) (w : ℕ) → ((i : ℕ) → i < w → P i (get_or s (at + i) 0)) → P w (get_or s (at + w) 0)
      → (i : ℕ) → i < suc w → P i (get_or s (at + i) 0)
  each P w f q i l = elim (dec_lt i w) [ yes h ↦ f i h | no h ↦ last h ]
    where
      last : (i < w → ⊥) → P i (get_or s (at + i) 0)
      last h = let e : i ≡ w = omega arith in rw e q

  all_letters : (w : ℕ) → letters w (field s at w) ≡ true → (i : ℕ) → i < w → IsLetter (get_or s (at + i) 0)
  all_letters zero e i l = absurd (omega arith)
  all_letters (suc w) e i l =
      let t = letters_split w (field s at (suc w)) e in
      each (λ i b. IsLetter b) w (all_letters w (rw (front_bytes w) at t.0))
      (rw (last_byte w) at (letter_bounds (field s at (suc w) % 256) t.1)) i l

  -- a text without its last byte, which is a space
  longer : (w n : ℕ) → Unpadded s at w n → get_or s (at + w) 0 ≡ 32 → Unpadded s at (suc w) n
  longer w n u e = record {
    some = u.some;
    within = let h = u.within in omega arith;
    front = u.front;
    back = λ i l h. each (λ i b. n ≤ i → b ≡ 32) w (λ i h l. u.back i l h) (λ l. e) i h l;
  }

  pub unpadded_means : (w : ℕ) → text w (field s at w) ≡ true → Unpadded s at w (unpadded w (field s at w))
  unpadded_means zero e = absurd (no_empty_text (field s at zero) e)
  unpadded_means (suc w) e =
      let v = field s at (suc w) in
      elim (text_cases w v e) [
        | inl p ↦
            let b = letter_bounds (v % 256) (letters_split w v p).1 in
            rw (no_space w v (λ q. omega arith))
            (record { some = omega arith; within = omega arith; front = all_letters (suc w) p; back = λ i l h. absurd (omega arith) })
        | inr q ↦
            rw (after_space w v q.1, front_bytes w)
            (longer w (unpadded w (field s at w)) (unpadded_means w (rw (front_bytes w) at q.0)) (sym (last_byte w) ∙ q.1))
      ]
