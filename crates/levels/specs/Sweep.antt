-- The pass over the slots of one map number by its one bits, lowest first: m is the map number with the bits taken off of the slots
-- that were looked at. Free slots between one bits change nothing of what was seen. Assumes nothing.
use Rattle.std.specs.Prelude.{◌≡◌, ℕ, suc, ◌+◌, ◌-◌, ◌*◌, ◌^◌, ◌<◌, ◌≤◌, ◌≢◌, List, bit_and, slice_index, refl, Some, None}
use Rattle.std.proofs.Common.{sym, ap, ◌∙◌, ⊎_elim, add-zero, add-suc, lt_of_le_of_lt, arith, pow_pos}
use Rattle.std.specs.Int.Count.{count_trailing_zeros}
use Rattle.laws.specs.Bit.{bit_of_zero, trailing_zero, trailing_one, trailing_lt, and_pred, clear_same, clear_other, pow-le}
use Rattle.laws.specs.Least.{same_or, lt-or-le}
use Rattle.laws.specs.Definitions.{bit}
use Rattle.book.specs.Book.{live}
use Rattle.book.specs.Words.{live_word}
use Rattle.slots.specs.Stored.{held_at}
use Rattle.levels.specs.declared.Wanted.{Wanted}
use Rattle.levels.specs.declared.Best.{Best}
use Rattle.levels.specs.Visits.{seen, visited}
use Rattle.levels.specs.VisitLaws.{free_slots, live_slot, unsound_stays, Small, small}

-- after the slots of map number j below `past`: what was seen is `best`, and m has the one bits that are left
pub record Sweep (w : Wanted) (b : List ℕ) (k j : ℕ) (best : Best) (m : ℕ) : Type 0 where
  pub past : ℕ
  pub most : past ≤ 64
  pub fits : m < 2 ^ 64
  pub done : visited w b k (64 * j + past) ≡ Some best
  pub gone : (i : ℕ) → i < past → bit m i ≡ 0
  pub left : (i : ℕ) → past ≤ i → bit m i ≡ bit (slice_index b j) i

zero_one : ◌≡◌ {A = ℕ} 0 1 → ⊥
zero_one q = omega arith

module _ (w : Wanted) (b : List ℕ) (k j : ℕ) where
  -- nothing looked at yet
  pub sweep_start : (best : Best) → slice_index b j < 2 ^ 64 → visited w b k (64 * j) ≡ Some best → Sweep w b k j best (slice_index b j)
  sweep_start best l e = record {
    past = 0;
    most = omega arith;
    fits = l;
    done = ap (visited w b k) (add-zero (64 * j)) ∙ e;
    gone = λ i q. absurd (omega arith);
    left = λ i q. refl;
  }

  module _ (best : Best) (m : ℕ) (s : Sweep w b k j best m) where
    -- slots whose bits in m are 0 change nothing
    skipped : (t : ℕ) → s.past ≤ t → t ≤ 64 → ((i : ℕ) → i < t → bit m i ≡ 0) → visited w b k (64 * j + t) ≡ Some best
    skipped t l h none =
        let p = s.past in
        let e : 64 * j + p + (t - p) ≡ 64 * j + t = omega arith in
        ap (visited w b k) (sym e) ∙ free_slots w b k (64 * j + p) (t - p) (λ i q. free i q) ∙ s.done
      where
        free : (i : ℕ) → i < t - s.past → live b (64 * j + s.past + i) ≡ 0
        free i q =
            let e : 64 * j + s.past + i ≡ 64 * j + (s.past + i) = omega arith in
            ap (live b) e ∙ live_word b j (s.past + i) (omega arith) ∙ sym (s.left (s.past + i) (omega arith))
            ∙ none (s.past + i) (omega arith)

    -- no one bit is left
    pub sweep_done : m ≡ 0 → Some best ≡ visited w b k (64 * (j + 1))
    sweep_done z =
        let e : 64 * j + 64 ≡ 64 * (j + 1) = omega arith in
        sym (skipped 64 s.most (omega arith) (λ i l. ap (λ (x : ℕ). bit x i) z ∙ bit_of_zero i)) ∙ ap (visited w b k) e

    module _ (n : m ≢ 0) where
      pub next_lt : count_trailing_zeros 64 m < 64
      next_lt = trailing_lt 64 m s.fits n

      next_bit : bit m (count_trailing_zeros 64 m) ≡ 1
      next_bit = trailing_one 64 m next_lt

      next_past : s.past ≤ count_trailing_zeros 64 m
      next_past =
          ⊎_elim (λ l. absurd (zero_one (sym (s.gone (count_trailing_zeros 64 m) l) ∙ next_bit))) (λ l. l) (lt-or-le (count_trailing_zeros 64 m) s.past)

      -- up to the next one bit, and with its slot
      reached : visited w b k (64 * j + count_trailing_zeros 64 m) ≡ Some best
      reached = skipped (count_trailing_zeros 64 m) next_past (omega (arith, next_lt)) (λ i l. trailing_zero 64 m i l)

      next_seen : visited w b k (64 * j + suc (count_trailing_zeros 64 m)) ≡ seen w (Some best) (held_at b k (64 * j + count_trailing_zeros 64 m))
      next_seen =
          let t = count_trailing_zeros 64 m in
          let l : live b (64 * j + t) ≡ 1 = live_word b j t next_lt ∙ sym (s.left t next_past) ∙ next_bit in
          ap (visited w b k) (add-suc (64 * j) t) ∙ live_slot w b k (64 * j + t) l
          ∙ ap (λ p. seen w p (held_at b k (64 * j + t))) reached

      pub sweep_less : bit_and m (m - 1) < m
      sweep_less =
          let e = and_pred 64 m s.fits n in
          let l = pow-le (count_trailing_zeros 64 m) m next_bit in
          rw e (omega (arith, pow_pos (count_trailing_zeros 64 m)))

      -- the slot is unsound
      pub sweep_unsound : held_at b k (64 * j + count_trailing_zeros 64 m) ≡ None → None ≡ visited w b k (64 * (j + 1))
      sweep_unsound h =
          let t = count_trailing_zeros 64 m in
          let l = next_lt in
          let e : 64 * j + suc t + (64 - suc t) ≡ 64 * (j + 1) = omega arith in
          sym (unsound_stays w b k (64 * j + suc t) (64 - suc t) (next_seen ∙ ap (seen w (Some best)) h)) ∙ ap (visited w b k) e

      -- it is not
      pub sweep_more : (more : Best) → seen w (Some best) (held_at b k (64 * j + count_trailing_zeros 64 m)) ≡ Some more
          → Sweep w b k j more (bit_and m (m - 1))
      sweep_more more r =
          let t = count_trailing_zeros 64 m in
          let e = and_pred 64 m s.fits n in
          rw e (record {
            past = suc t;
            most = next_lt;
            fits = lt_of_le_of_lt (omega arith) s.fits;
            done = next_seen ∙ r;
            gone = λ i l. ⊎_elim
                (λ d. ap (bit (m - 2 ^ t)) d ∙ clear_same t m next_bit)
                (λ d. clear_other t m i d next_bit ∙ trailing_zero 64 m i (omega arith))
                (same_or i t);
            left = λ i l. clear_other t m i (λ q. omega arith) next_bit ∙ s.left i (omega (arith, next_past));
          })

  -- the sums stay far below what 64 bits hold
  pub sweep_small : {best : Best} {m : ℕ} → Sweep w b k j best m → j < k → k ≤ 1024 → Small 65536 best
  sweep_small {best} s l h =
      let q = small w b k (64 * j + s.past) best s.done in
      let p = s.most in
      record { shares = omega arith; orders = omega arith }
