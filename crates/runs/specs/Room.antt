-- A book has a free slot exactly when fewer than all its slots are live (`room_count`). Assumes nothing.
use Rattle.std.specs.Prelude.{◌≡◌, refl, Bool, true, false, cond, List, ℕ, zero, suc, ◌*◌, ◌≤◌, ◌<◌, eqb, ltb, Option, Some, None}
use Rattle.std.proofs.Common.{sym, ap, ◌∙◌, ⊎_elim, arith, eq-eqb, ne_eqb, lt-ltb, le-ltb}
use Rattle.laws.specs.Bools.{true_not_false}
use Rattle.laws.specs.Sum.{sum_ext, sum-le, sum_change}
use Rattle.laws.specs.Definitions.{sum_to}
use Rattle.book.specs.Book.{live, is_free, lowest_free}
use Rattle.book.specs.Finds.{free_yes, free_slot, full}
use Rattle.slots.specs.Stored.{is_at}
use Rattle.levels.specs.TotalLaws.{live_cases}
use Rattle.census.specs.Census.{live_count}
use Rattle.kinds.specs.declared.Slot.{Slot}

sum_ones : (n : ℕ) → sum_to (λ i. 1) n ≡ n
unfolding sum_to
sum_ones zero = refl
sum_ones (suc n) = omega (arith, sum_ones n)

-- where no slot is free, all are live
full_count : (b : List ℕ) (k : ℕ) → lowest_free b k ≡ None → live_count b k ≡ 64 * k
unfolding live_count
full_count b k e =
    sum_ext (live b) (λ i. 1) (64 * k)
    (λ s l. ⊎_elim
    (λ (q : live b s ≡ 0). absurd (true_not_false (is_free b s) (free_yes b s q) (full b k e s l)))
    (λ (q : live b s ≡ 1). q)
    (live_cases b s))
    ∙ sum_ones (64 * k)

-- a free slot is one less
free_count : (b : List ℕ) (k s : ℕ) → s < 64 * k → live b s ≡ 0 → live_count b k < 64 * k
unfolding live_count
free_count b k s l e =
    let filled : ℕ → ℕ = λ i. cond (eqb i s) 1 (live b i) in
    let most : sum_to filled (64 * k) ≤ 64 * k * 1 = sum-le filled 1 (64 * k) (λ i h. at_most i (eqb i s)) in
    let here : filled s ≡ 1 = ap (λ (t : Bool). cond t 1 (live b s)) (eq-eqb s s refl) in
    let change = sum_change (live b) filled (64 * k) s l (λ i h d. sym (ap (λ (t : Bool). cond t 1 (live b i)) (ne_eqb i s d))) in
    omega (arith, most, here, change, e)
  where
    at_most : (i : ℕ) (t : Bool) → cond t 1 (live b i) ≤ 1
    at_most i true = omega arith
    at_most i false = ⊎_elim (λ (q : live b i ≡ 0). omega arith) (λ (q : live b i ≡ 1). omega arith) (live_cases b i)

pub room_count : (b : List ℕ) (k : ℕ) → is_at (lowest_free b k) ≡ ltb (live_count b k) (64 * k)
room_count b k = go (lowest_free b k) refl
  where
    go : (f : Option Slot) → lowest_free b k ≡ f → is_at f ≡ ltb (live_count b k) (64 * k)
    go (Some s) e = let g = free_slot b k s e in sym (lt-ltb (live_count b k) (64 * k) (free_count b k s.0 g.0 g.1))
    go None e = sym (le-ltb (live_count b k) (64 * k) (omega (arith, full_count b k e)))
