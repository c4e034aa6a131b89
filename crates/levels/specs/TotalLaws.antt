-- The laws of a total: weights that agree on the live slots have one total, a total of 0 has only weights 0, and a bound of each
-- weight bounds the total. What a slot holds is such as 01 allows (`held_kept`), whatever the book contains. Assumes nothing.
use Rattle.std.specs.Prelude.{◌≡◌, ℕ, zero, suc, ◌+◌, ◌*◌, ◌<◌, ◌≤◌, ◌⊎◌, List, refl, Option, Some, None}
use Rattle.std.proofs.Common.{sym, ◌∙◌, ⊎_elim, arith}
use Rattle.laws.specs.Bit.{bit_cases}
use Rattle.laws.specs.Sum.{sum_ext, sum-le}
use Rattle.laws.specs.Least.{same_or}
use Rattle.laws.specs.Definitions.{sum_to}
use Rattle.kinds.specs.Admission.{maximum}
use Rattle.book.specs.Book.{live, number_at}
use Rattle.orders.specs.declared.Order.{Order}
use Rattle.orders.specs.Order.{remaining}
use Rattle.orders.specs.OrderLaws.{held-sound}
use Rattle.slots.specs.Stored.{held_at}
use Rattle.levels.specs.Totals.{weighed, total}

-- ---- what a slot holds

-- the order in a sound slot: its price is in range, and of it remains at least a share, and no more than 32 bits hold
pub record Whole (o : Order) : Type 0 where
  pub price : o.price.0 ≤ 2000000000
  pub some : 0 < remaining o
  pub most : remaining o ≤ 4294967295

abbrev pub Kept : Option Order → Type 0
Kept (Some o) = Whole o
Kept None = Unit {0}

pub held_kept : (b : List ℕ) (k s : ℕ) → Kept (held_at b k s)
unfolding held_at maximum remaining
held_kept b k s = go (held_at b k s) refl
  where
    go : (h : Option Order) → held_at b k s ≡ h → Kept h
    go None e = tt
    go (Some o) e =
        let h = held-sound (number_at b k s 0) (number_at b k s 1) (number_at b k s 2) (number_at b k s 3) o e in
        record { price = h.price; some = h.remains; most = omega arith }

-- ---- one slot

pub live_cases : (b : List ℕ) (s : ℕ) → (live b s ≡ 0) ⊎ (live b s ≡ 1)
unfolding live
live_cases b s = bit_cases _ _

weighed_free : (f : Option Order → ℕ) (b : List ℕ) (k s : ℕ) → live b s ≡ 0 → weighed f b k s ≡ 0
unfolding weighed
weighed_free f b k s e = rw e (omega arith)

weighed-live : (f : Option Order → ℕ) (b : List ℕ) (k s : ℕ) → live b s ≡ 1 → weighed f b k s ≡ f (held_at b k s)
unfolding weighed
weighed-live f b k s e = rw e (omega arith)

-- a sum over one slot more
pub more_free : (f : Option Order → ℕ) (b : List ℕ) (k n : ℕ) → live b n ≡ 0 → sum_to (weighed f b k) (suc n) ≡ sum_to (weighed f b k) n
unfolding sum_to
more_free f b k n e = omega (arith, weighed_free f b k n e)

pub more-live : (f : Option Order → ℕ) (b : List ℕ) (k n : ℕ) → live b n ≡ 1
    → sum_to (weighed f b k) (suc n) ≡ sum_to (weighed f b k) n + f (held_at b k n)
unfolding sum_to
more-live f b k n e = omega (arith, weighed-live f b k n e)

-- ---- all slots

pub total_ext : (f g : Option Order → ℕ) (b : List ℕ) (k : ℕ)
    → ((s : ℕ) → s < 64 * k → live b s ≡ 1 → f (held_at b k s) ≡ g (held_at b k s)) → total f b k ≡ total g b k
unfolding total
total_ext f g b k h = sum_ext (weighed f b k) (weighed g b k) (64 * k) λ s l. ⊎_elim
    (λ e. weighed_free f b k s e ∙ sym (weighed_free g b k s e))
    (λ e. weighed-live f b k s e ∙ h s l e ∙ sym (weighed-live g b k s e))
    (live_cases b s)

-- each weight at most c: the total at most c for each slot
pub total-le : (f : Option Order → ℕ) (c : ℕ) (b : List ℕ) (k : ℕ)
    → ((s : ℕ) → s < 64 * k → live b s ≡ 1 → f (held_at b k s) ≤ c) → total f b k ≤ 64 * k * c
unfolding total
total-le f c b k h = sum-le (weighed f b k) c (64 * k) λ s l. ⊎_elim
    (λ e. omega (arith, weighed_free f b k s e))
    (λ e. omega (arith, weighed-live f b k s e, h s l e))
    (live_cases b s)

-- all weights 0: the total is 0
pub none_total : (f : Option Order → ℕ) (b : List ℕ) (k : ℕ)
    → ((s : ℕ) → s < 64 * k → live b s ≡ 1 → f (held_at b k s) ≡ 0) → total f b k ≡ 0
none_total f b k h = omega (arith, total-le f 0 b k λ s l e. omega (arith, h s l e))

-- and back: a total of 0 has only weights 0
pub total_none : (f : Option Order → ℕ) (b : List ℕ) (k : ℕ) → total f b k ≡ 0
    → (s : ℕ) → s < 64 * k → live b s ≡ 1 → f (held_at b k s) ≡ 0
unfolding total sum_to
total_none f b k z s l e = sym (weighed-live f b k s e) ∙ sum_none (weighed f b k) (64 * k) z s l
  where
    sum_none : (g : ℕ → ℕ) (n : ℕ) → sum_to g n ≡ 0 → (i : ℕ) → i < n → g i ≡ 0
    sum_none g zero z i l = absurd (omega arith)
    sum_none g (suc n) z i l = ⊎_elim
        (λ e. rw e (omega arith))
        (λ d. sum_none g n (omega arith) i (omega arith))
        (same_or i n)

-- a total that is not 0 has a live slot whose weight is not
pub some_total : (f : Option Order → ℕ) (b : List ℕ) (k : ℕ) → 0 < total f b k
    → (s : ℕ) × (s < 64 * k) × (live b s ≡ 1) × (0 < f (held_at b k s))
unfolding total sum_to
some_total f b k h = go (64 * k) h
  where
    later : (n : ℕ) → (s : ℕ) × (s < n) × (live b s ≡ 1) × (0 < f (held_at b k s))
        → (s : ℕ) × (s < suc n) × (live b s ≡ 1) × (0 < f (held_at b k s))
    later n x = (x.0, omega (arith, x.1), x.2, x.3)

    go : (n : ℕ) → 0 < sum_to (weighed f b k) n → (s : ℕ) × (s < n) × (live b s ≡ 1) × (0 < f (held_at b k s))
    go zero h = absurd (omega arith)
    go (suc n) h = ⊎_elim
        (λ e. later n (go n (omega (arith, weighed_free f b k n e))))
        (λ e. ⊎_elim
        (λ (z : f (held_at b k n) ≡ 0). later n (go n (omega (arith, weighed-live f b k n e))))
        (λ (d : f (held_at b k n) ≡ 0 → ⊥). (n, omega arith, e, omega arith))
        (same_or (f (held_at b k n)) 0))
        (live_cases b n)
