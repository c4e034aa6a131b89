-- The laws of a big-endian field, each for any width: a field of two fields side by side, its bound, and its last byte.
-- Every reader of 1, 2, 4, 6 or 8 bytes cites `join`. Assumes nothing.
use Rattle.std.specs.Prelude.{◌≡◌, List, ℕ, zero, suc, ◌+◌, ◌*◌, ◌^◌, ◌<◌, get_or}
use Rattle.std.proofs.Common.{sym, add-zero, add-suc, add_assoc, pow-suc, mul_assoc, arith, lit<}
use Rattle.std.proofs.Math.Arith.{digits_lt}
use Rattle.laws.specs.Field.{field}

-- one byte
pub field_one : (s : List ℕ) (at : ℕ) → field s at 1 ≡ get_or s at 0
unfolding field
field_one s at = rw add-zero (omega arith)

-- a field of m + n bytes is the first m and then the n that follow
pub join : (s : List ℕ) (at m n : ℕ) → field s at (m + n) ≡ field s at m * 256 ^ n + field s (at + m) n
unfolding field
join s at m zero = rw add-zero (omega arith)
join s at m (suc n) =
    let ih : field s at (m + n) ≡ field s at m * 256 ^ n + field s (at + m) n = join s at m n in
    let e : at + (m + n) ≡ at + m + n = sym (add_assoc at m n) in
    let p : field s at m * (256 ^ n * 256) ≡ field s at m * 256 ^ n * 256 = sym (mul_assoc (field s at m) (256 ^ n) 256) in
    rw (add-suc, pow-suc, p) (rw (ih, e) (omega arith))

-- a field of bytes fits its width
pub field_lt : (s : List ℕ) (at w : ℕ) → ((i : ℕ) → get_or s i 0 < 256) → field s at w < 256 ^ w
unfolding field
field_lt s at zero b = lit< tt
field_lt s at (suc w) b = rw pow-suc (digits_lt (field_lt s at w b) (b (at + w)))
