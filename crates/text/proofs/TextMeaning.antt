-- What `text` means, proved: by induction on the width, as the bytes of the field without its last byte are the bytes before the
-- last. Assumes nothing.
use Rattle.std.specs.Prelude.{ℕ, zero, suc, ◌-◌, ◌/◌, ◌%◌, ◌^◌, ◌≤◌, ◌<◌, ◌≡◌, refl, true}
use Rattle.std.proofs.Common.{sym, ap, ◌∙◌, inl, inr, arith, pow-suc, mul_comm, div-one}
use Rattle.std.proofs.Math.Decide.{dec_le, dec_lt}
use Rattle.std.proofs.Math.Nat.{div-div-eq-div-mul}
use Rattle.text.specs.Text.{letters, text}
use Rattle.text.specs.TextLaws.{letter_bounds, letter_of_bounds, letters_split, letters_join, text_cases, text_of_letters, text_of_space, no_empty_text}
use Rattle.text.specs.TextMeaning.{byte, IsLetter, LettersThenSpaces}

-- ---- the bytes of a field and of the field without its last byte

byte_last : (w v : ℕ) → byte (suc w) v w ≡ v % 256
unfolding byte
byte_last w v =
    let z : suc w - 1 - w ≡ 0 = omega arith in
    rw z (ap (λ (x : ℕ). x % 256) (div-one v))

byte_front : (w v i : ℕ) → i < w → byte (suc w) v i ≡ byte w (v / 256) i
unfolding byte
byte_front w v i l =
    let s : suc w - 1 - i ≡ suc (w - 1 - i) = omega arith in
    let j = w - 1 - i in
    rw s (ap (λ (x : ℕ). x % 256)
    (ap (λ (x : ℕ). v / x) (pow-suc 256 j ∙ mul_comm (256 ^ j) 256) ∙ sym (div-div-eq-div-mul v 256 (256 ^ j))))

-- a fact of each byte, from that of the last and of those before it
each : (P : ℕ → ℕ → Type 0) (w v : ℕ) → ((i : ℕ) → i < w → P i (byte w (v / 256) i)) → P w (v % 256)
    → (i : ℕ) → i < suc w → P i (byte (suc w) v i)
each P w v f q i l = elim (dec_lt i w) [ yes h ↦ rw (byte_front w v i h) (f i h) | no h ↦ last h ]
  where
    last : (i < w → ⊥) → P i (byte (suc w) v i)
    last h = let e : i ≡ w = omega arith in rw (e, byte_last w v) q

-- ---- letters

letters_bytes : (w v : ℕ) → letters w v ≡ true → (i : ℕ) → i < w → IsLetter (byte w v i)
letters_bytes zero v e i l = absurd (omega arith)
letters_bytes (suc w) v e i l =
    let t = letters_split w v e in
    each (λ i b. IsLetter b) w v (letters_bytes w (v / 256) t.0) (letter_bounds (v % 256) t.1) i l

bytes_letters : (w v : ℕ) → ((i : ℕ) → i < w → IsLetter (byte w v i)) → letters w v ≡ true
unfolding letters
bytes_letters zero v f = refl
bytes_letters (suc w) v f =
    let b = rw (byte_last w v) at (f w (omega arith)) in
    letters_join w v (bytes_letters w (v / 256) (λ i l. rw (byte_front w v i l) at (f i (omega arith))))
    (letter_of_bounds (v % 256) b.0 b.1)

-- ---- a text

pub text_means : (w v : ℕ) → text w v ≡ true → (k : ℕ) × LettersThenSpaces w v k
text_means zero v e = absurd (no_empty_text v e)
text_means (suc w) v e = elim (text_cases w v e) [ inl p ↦ whole p | inr q ↦ spaced (text_means w (v / 256) q.0) q.1 ]
  where
    whole : letters (suc w) v ≡ true → (k : ℕ) × LettersThenSpaces (suc w) v k
    whole p = (
      suc w,
      record {
        some = omega arith;
        within = omega arith;
        front = letters_bytes (suc w) v p;
        back = λ i l h. absurd (omega arith);
      },
    )

    spaced : (k : ℕ) × LettersThenSpaces w (v / 256) k → v % 256 ≡ 32 → (k : ℕ) × LettersThenSpaces (suc w) v k
    spaced r s = (
      r.0,
      record {
        some = r.1.some;
        within = let h = r.1.within in omega arith;
        front = λ i l. let h = r.1.within in rw (byte_front w v i (omega arith)) (r.1.front i l);
        back = λ i l h. each (λ i b. r.0 ≤ i → b ≡ 32) w v (λ i h l. r.1.back i l h) (λ l. s) i h l;
      },
    )

pub means_text : (w v k : ℕ) → LettersThenSpaces w v k → text w v ≡ true
means_text zero v k r = absurd (let a = r.some in let b = r.within in omega arith)
means_text (suc w) v k r = elim (dec_le k w) [ yes l ↦ spaced l (means_text w (v / 256) k (before l)) | no h ↦ whole h ]
  where
    before : k ≤ w → LettersThenSpaces w (v / 256) k
    before l =
        record {
          some = r.some;
          within = l;
          front = λ i h. rw (byte_front w v i (omega arith)) at (r.front i h);
          back = λ i p h. rw (byte_front w v i h) at (r.back i p (omega arith));
        }

    spaced : k ≤ w → text w (v / 256) ≡ true → text (suc w) v ≡ true
    spaced l t = text_of_space w v t (rw (byte_last w v) at (r.back w l (omega arith)))

    whole : (k ≤ w → ⊥) → text (suc w) v ≡ true
    whole h = text_of_letters w v (bytes_letters (suc w) v (λ i l. r.front i (omega arith)))
