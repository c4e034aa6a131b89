-- `v + rep c w` adds c to each of w bytes, and `& rep 128 w` keeps the top bit of each: a mark, 128, at each byte that c
-- takes to 128 or more. `and_block` splits off the last byte, so that the marks are told byte by byte.
-- Assumes nothing.
use Prim.Native.Nat.{ℕ, zero, suc, ◌+◌, ◌*◌, ◌/◌, ◌%◌, ◌^◌, ◌≤◌, ◌<◌}
use mathlib.Core.Path.{◌≡◌, refl, ap, ◌∙◌}
use mathlib.Core.Bool.{true}
use native.Mathlib.Omega.{arith}
use native.Mathlib.Nat.{pow-suc}
use lib.Bits.{bit_and, and_block, and_high, and_zero_r}
use Rattle.text.specs.Text.{letters}
use Rattle.text.specs.TextLaws.{letter_bounds, letter_of_bounds, letters_split, letters_join}

-- the byte c, w times
unfoldable pub rep : ℕ → ℕ → ℕ
rep c zero = 0
rep c (suc w) = rep c w * 256 + c

-- 128 at each of w bytes that c takes to 128 or more, 0 at the others
unfoldable pub marks : ℕ → ℕ → ℕ → ℕ
marks c zero v = 0
marks c (suc w) v = marks c w (v / 256) * 256 + (v % 256 + c) / 128 * 128

-- ---- `&` with the top bits

top_bit : (r : ℕ) → r < 256 → bit_and r 128 ≡ r / 128 * 128
top_bit r h = and_high r 1 7 ∙ omega arith

and_last : (a b r : ℕ) → r < 256 → bit_and (a * 256 + r) (b * 256 + 128) ≡ bit_and a b * 256 + r / 128 * 128
and_last a b r h = and_block 8 a b r 128 h (omega arith) ∙ ap (λ (x : ℕ). bit_and a b * 256 + x) (top_bit r h)

pub and-marks : (w v : ℕ) → bit_and v (rep 128 w) ≡ marks 0 w v
unfolding rep marks
and-marks zero v = and_zero_r v
and-marks (suc w) v =
    let s : v ≡ v / 256 * 256 + v % 256 = omega arith in
    ap (λ (x : ℕ). bit_and x (rep 128 w * 256 + 128)) s
    ∙ and_last (v / 256) (rep 128 w) (v % 256) (omega arith)
    ∙ rw (and-marks w (v / 256)) (omega arith)

-- no byte is 128 or more, so no sum carries into the next byte
pub and-sum-marks : (c w v : ℕ) → c ≤ 128 → marks 0 w v ≡ 0 → bit_and (v + rep c w) (rep 128 w) ≡ marks c w v
unfolding rep marks
and-sum-marks c zero v l z = and_zero_r (v + 0)
and-sum-marks c (suc w) v l z =
    let s : v + (rep c w * 256 + c) ≡ (v / 256 + rep c w) * 256 + (v % 256 + c) = omega arith in
    ap (λ (x : ℕ). bit_and x (rep 128 w * 256 + 128)) s
    ∙ and_last (v / 256 + rep c w) (rep 128 w) (v % 256 + c) (omega arith)
    ∙ rw (and-sum-marks c w (v / 256) l (omega arith))

-- no byte is 128 or more, so the number is at most 127 in every byte
pub low_le : (w v : ℕ) → v < 256 ^ w → marks 0 w v ≡ 0 → v ≤ rep 127 w
unfolding rep marks
low_le zero v h z = omega arith
low_le (suc w) v h z =
    let q = rw pow-suc at h in
    let ih = low_le w (v / 256) (omega arith) (omega arith) in
    omega arith

-- ---- the marks of letters

-- each byte is from 32 to 126: 96 takes it to 128, and 1 does not
pub record Plain (w v : ℕ) : Type 0 where
  pub low : marks 0 w v ≡ 0
  pub below : marks 1 w v ≡ 0
  pub from : marks 96 w v ≡ rep 128 w

pub plain_empty : (v : ℕ) → Plain zero v
unfolding rep marks
plain_empty v = record { low = refl; below = refl; from = refl }

pub plain_join : (w v : ℕ) → Plain w (v / 256) → 32 ≤ v % 256 → v % 256 ≤ 126 → Plain (suc w) v
unfolding rep marks
plain_join w v p l h = record { low = omega arith; below = omega arith; from = omega arith }

pub plain_front : (w v : ℕ) → Plain (suc w) v → Plain w (v / 256)
unfolding rep marks
plain_front w v p =
    let below = p.below in
    let from = p.from in
    record { low = omega arith; below = omega arith; from = omega arith }

pub plain_last : (w v : ℕ) → Plain (suc w) v → (32 ≤ v % 256) × (v % 256 ≤ 126)
unfolding rep marks
plain_last w v p =
    let below = p.below in
    let from = p.from in
    let front = (plain_front w v p).from in
    (omega arith, omega arith)

pub letters_plain : (w v : ℕ) → letters w v ≡ true → Plain w v
letters_plain zero v e = plain_empty v
letters_plain (suc w) v e =
    let t = letters_split w v e in
    let b = letter_bounds (v % 256) t.1 in
    plain_join w v (letters_plain w (v / 256) t.0) (omega arith) b.1

pub letters-marked : (w v : ℕ) → letters w v ≡ true → marks 95 w v ≡ rep 128 w
unfolding rep marks
letters-marked zero v e = refl
letters-marked (suc w) v e =
    let t = letters_split w v e in
    let b = letter_bounds (v % 256) t.1 in
    let ih = letters-marked w (v / 256) t.0 in
    omega arith

pub marked-letters : (w v : ℕ) → Plain w v → marks 95 w v ≡ rep 128 w → letters w v ≡ true
unfolding rep marks letters
marked-letters zero v p m = refl
marked-letters (suc w) v p m =
    let b = plain_last w v p in
    let front : marks 95 w (v / 256) ≡ rep 128 w = omega arith in
    letters_join w v (marked-letters w (v / 256) (plain_front w v p) front)
    (letter_of_bounds (v % 256) (omega arith) b.1)
