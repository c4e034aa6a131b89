-- A search through the one bits of a map number, lowest first: t is the trailing zeros of m, then m becomes m & (m - 1).
-- No law names how many bits have been passed. Assumes nothing.
use Rattle.std.specs.Prelude.{◌≡◌, Bool, true, false, ℕ, ◌-◌, ◌^◌, ◌<◌}
use Rattle.std.proofs.Common.{sym, ap, ◌∙◌, subst, ⊎_elim, le_refl, le_of_lt, lt_irrefl, lt_of_le_of_lt, arith, pow_pos}
use Rattle.std.specs.Int.Bits.{bit_and}
use Rattle.std.specs.Int.Count.{count_trailing_zeros}
use Rattle.laws.specs.Bit.{bit_of_zero, trailing_zero, trailing_one, trailing_lt, and_pred, clear_same, clear_other, pow-le}
use Rattle.laws.specs.Least.{least_is, same_or}
use Rattle.laws.specs.Definitions.{bit, least}

-- m is w with the one bits taken off that have been looked at, none of which passed the test p
pub record Scan (p : ℕ → Bool) (w m : ℕ) : Type 0 where
  pub fits : m < 2 ^ 64
  pub sub : (i : ℕ) → bit m i ≡ 1 → bit w i ≡ 1
  pub past : (i : ℕ) → i < 64 → bit m i ≡ 0 → p i ≡ false

-- nothing looked at yet: a bit that is 0 passes no test
pub scan_start : (p : ℕ → Bool) (w : ℕ) → w < 2 ^ 64 → ((i : ℕ) → i < 64 → bit w i ≡ 0 → p i ≡ false) → Scan p w w
scan_start p w l h = record { fits = l; sub = λ i e. e; past = h }

-- the next one bit
pub next_lt : {p : ℕ → Bool} {w m : ℕ} → Scan p w m → (m ≡ 0 → ⊥) → count_trailing_zeros 64 m < 64
next_lt {m = m} s n = trailing_lt 64 m s.fits n

pub next_one : {p : ℕ → Bool} {w m : ℕ} → Scan p w m → (m ≡ 0 → ⊥) → bit w (count_trailing_zeros 64 m) ≡ 1
next_one {m = m} s n = s.sub _ (trailing_one 64 m (next_lt s n))

-- m falls
pub less : {p : ℕ → Bool} {w m : ℕ} → Scan p w m → (m ≡ 0 → ⊥) → bit_and m (m - 1) < m
less {m = m} s n =
    let e = and_pred 64 m s.fits n in
    let l = pow-le (count_trailing_zeros 64 m) m (trailing_one 64 m (next_lt s n)) in
    rw e (omega (arith, pow_pos (count_trailing_zeros 64 m)))

-- the next one bit does not pass: go on
pub step : {p : ℕ → Bool} {w m : ℕ} → Scan p w m → (m ≡ 0 → ⊥) → p (count_trailing_zeros 64 m) ≡ false → Scan p w (bit_and m (m - 1))
step {p} {w} {m} s n f =
    let t = count_trailing_zeros 64 m in
    let one : bit m t ≡ 1 = trailing_one 64 m (next_lt s n) in
    let e = and_pred 64 m s.fits n in
    rw e (record {
      fits = lt_of_le_of_lt (omega arith) s.fits;
      sub = λ i q. ⊎_elim
          (λ d. absurd (zero_one (sym (clear_same t m one) ∙ subst (λ (x : ℕ). bit (m - 2 ^ t) x ≡ 1) d q)))
          (λ d. s.sub i (sym (clear_other t m i d one) ∙ q))
          (same_or i t);
      past = λ i l q. ⊎_elim (λ d. subst (λ (x : ℕ). p x ≡ false) (sym d) f) (λ d. s.past i l (sym (clear_other t m i d one) ∙ q)) (same_or i t);
    })
  where
    zero_one : ◌≡◌ {A = ℕ} 0 1 → ⊥
    zero_one q = omega arith

-- the next one bit passes: it is the lowest that does
pub hit : {p : ℕ → Bool} {w m : ℕ} → Scan p w m → (m ≡ 0 → ⊥) → p (count_trailing_zeros 64 m) ≡ true → count_trailing_zeros 64 m ≡ least p 64
hit {p} {w} {m} s n y =
    let t = count_trailing_zeros 64 m in
    let l = next_lt s n in
    sym (least_is p 64 t (le_of_lt l) (λ i h. s.past i (omega arith) (trailing_zero 64 m i h)) (λ _. y))

-- no one bit is left: none passes
pub scan_done : {p : ℕ → Bool} {w m : ℕ} → Scan p w m → m ≡ 0 → 64 ≡ least p 64
scan_done {p} {w} {m} s e =
    sym (least_is p 64 64 (le_refl 64) (λ i l. s.past i l (ap (λ (x : ℕ). bit x i) e ∙ bit_of_zero i)) (λ l. absurd (lt_irrefl 64 l)))
