-- Marks are a run from the first byte when each but the first has one before it: `m & (m >> 8)` then takes away the
-- first mark and no other. `and_block` splits off the last byte, so that a run is told byte by byte.
-- Assumes nothing.
use Prim.Native.Nat.{ℕ, zero, suc, ◌+◌, ◌-◌, ◌*◌, ◌/◌, ◌%◌, ◌≤◌, ◌<◌}
use mathlib.Core.Path.{◌≡◌, refl, sym, ap, ◌∙◌}
use native.Mathlib.Omega.{arith}
use lib.Bits.{bit_and, and_block, and_le_l, and_le_r}
use Rattle.text.proofs.Marks.{rep}

-- the mark of the first of n + 1 bytes
unfoldable pub first : ℕ → ℕ
first zero = 128
first (suc n) = first n * 256

-- the marks m of n + 1 bytes are a run from the first byte
abbrev pub Run : ℕ → ℕ → Type 0
Run n m = bit_and m (m / 256) + first n ≡ m

and_shifted : (m d : ℕ) → d < 256 → bit_and (m * 256 + d) ((m * 256 + d) / 256) ≡ bit_and m (m / 256) * 256 + bit_and d (m % 256)
and_shifted m d h =
    let q : (m * 256 + d) / 256 ≡ m / 256 * 256 + m % 256 = omega arith in
    ap (bit_and (m * 256 + d)) q ∙ and_block 8 m (m / 256) d (m % 256) h (omega arith)

pub run_front : (n m d : ℕ) → d < 256 → Run (suc n) (m * 256 + d) → Run n m
unfolding first
run_front n m d h r =
    let e = sym (ap (λ (x : ℕ). x + first n * 256) (and_shifted m d h)) ∙ r in
    let l = and_le_l d (m % 256) in
    omega arith

-- the last byte has a mark only where the one before it has
pub run_last : (n m d : ℕ) → d < 256 → Run (suc n) (m * 256 + d) → d ≤ m % 256
unfolding first
run_last n m d h r =
    let e = sym (ap (λ (x : ℕ). x + first n * 256) (and_shifted m d h)) ∙ r in
    let l = and_le_l d (m % 256) in
    let k = and_le_r d (m % 256) in
    omega arith

pub run_join : (n m d : ℕ) → d < 256 → Run n m → bit_and d (m % 256) ≡ d → Run (suc n) (m * 256 + d)
unfolding first
run_join n m d h r e = ap (λ (x : ℕ). x + first n * 256) (and_shifted m d h) ∙ omega arith

pub run_all : (n : ℕ) → Run n (rep 128 (suc n))
unfolding first rep
run_all zero = refl
run_all (suc n) =
    let e : (rep 128 n * 256 + 128) % 256 ≡ 128 = omega arith in
    run_join n (rep 128 (suc n)) 128 (omega arith) (run_all n) (ap (bit_and 128) e)

-- ---- the same of the marks that have none before them, which the code takes

pub run_alone : (n m : ℕ) → Run n m → m - bit_and m (m / 256) ≡ first n
run_alone n m r = omega arith

pub alone_run : (n m : ℕ) → m - bit_and m (m / 256) ≡ first n → Run n m
alone_run n m e = let l = and_le_l m (m / 256) in omega arith
