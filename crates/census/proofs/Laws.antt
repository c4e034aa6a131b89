-- The live slots below 64 k, a map number at a time: each adds the one bits of its number. Assumes nothing.
use Rattle.refusals.specs.declared.Refusal.TheVariants.{Shape}
use Rattle.std.specs.Prelude.{Ok, Err}
use Prim.Native.Nat.{ℕ, zero, suc, ◌+◌, ◌*◌, ◌/◌, ◌%◌, ◌^◌, ◌≤◌, ◌<◌}
use mathlib.Core.Path.{◌≡◌, refl, sym, ap, ap₂, ◌∙◌}
use mathlib.Core.List.{List}
use native.Mathlib.Omega.{arith}
use lib.Count.{ones}
use borrow.Author.Tests.{eq-eqb, ne_eqb}
use lib.ListN.{length, get_or, take}
use Rattle.std.specs.List.{sum_by}
use Rattle.std.proofs.Common.{subst, add-one}
use Rattle.std.proofs.lemmas.List.Sums.{fold_more}
use Rattle.laws.specs.Bit.{bit-lt, ones_bits}
use Rattle.laws.specs.Sum.{sum_cut, sum_ext, sum-le}
use Rattle.laws.specs.Definitions.{bit, sum_to}
use Rattle.book.specs.Book.{live, words_of}
use Rattle.book.specs.Words.{live_word}
use Rattle.census.specs.Census.{live_count, count_asked}

-- the one bits of the first k map numbers are the live slots below 64 k
pub counted : (b : List ℕ) (k : ℕ) → k ≤ length b → ((i : ℕ) → get_or b i 0 < 2 ^ 64) → sum_by ones (take k b) ≡ live_count b k
unfolding live_count sum_to
counted b zero l fits = refl
counted b (suc k) l fits =
    let w = get_or b k 0 in
    let word : ones w ≡ sum_to (λ i. live b (64 * k + i)) 64 =
    ones_bits 64 w (fits k) ∙ sum_ext (λ i. bit w i) (λ i. live b (64 * k + i)) 64 (λ i q. sym (live_word b k i q)) in
    let more : sum_by ones (take (k + 1) b) ≡ sum_by ones (take k b) + ones w = fold_more (λ a x. a + ones x) 0 b k 0 (omega arith) in
    let e : 64 * (k + 1) ≡ 64 * k + 64 = omega arith in
    subst (λ (n : ℕ). sum_by ones (take n b) ≡ sum_to (live b) (64 * n)) (add-one k)
    (more ∙ ap₂ ◌+◌ (counted b k (omega arith) fits) word ∙ sym (ap (sum_to (live b)) e ∙ sum_cut (live b) (64 * k) 64))

-- a count is never more than the slots
pub few : (b : List ℕ) (k : ℕ) → live_count b k ≤ 64 * k * 1
unfolding live live_count
few b k = sum-le (live b) 1 (64 * k) (λ i l. let q = bit-lt (get_or b (i / 64) 0) (i % 64) in omega arith)

-- ---- the question

module _ (b : List ℕ) (k : ℕ) where
  pub shapeless : k ≡ words_of (length b) → k ≡ 0 → Err Shape ≡ count_asked b
  unfolding count_asked
  shapeless w z = rw (eq-eqb (words_of (length b)) 0 (sym w ∙ z))

  pub shaped : (n : ℕ) → k ≡ words_of (length b) → (k ≡ 0 → ⊥) → n ≡ live_count b k → Ok n ≡ count_asked b
  unfolding count_asked
  shaped n w z e = rw (ne_eqb (words_of (length b)) 0 (λ q. z (w ∙ q))) (ap Ok (e ∙ ap (live_count b) w))
