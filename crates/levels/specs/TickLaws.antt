-- The laws of ticks: they are prices in the order of better to worse, the best level not before a tick is that of the first tick at
-- which an order stands (`from_first`), and the best and the next level are such ones (`best_from`, `next_from_lem`). Assumes nothing.
use Rattle.std.specs.Prelude.{◌≡◌, ℕ, zero, suc, ◌+◌, ◌-◌, ◌<◌, ◌≤◌, Bool, true, false, cond, ◌&&◌, leb, List, length, nat_le, nat_lt, refl, Option, Result, Some, None, Ok}
use Rattle.std.proofs.Common.{sym, ap, subst, ◌∙◌, add-one, sub-one, arith}
use Rattle.std.proofs.Math.Logic.{⊎_elim}
use Rattle.std.proofs.Math.Nat.{sub-zero, suc-sub-suc}
use Rattle.std.proofs.Math.Dec.{leb-zero, leb-suc-suc}
use borrow.Author.Tests.{le-leb, lt-leb, lt-ltb, le-ltb, leb-true, ltb-false}
use Rattle.laws.specs.Bools.{and_left, and_right}
use Rattle.laws.specs.Least.{least_is, least-le, least_none, least_at, least_ext, lt-or-le}
use Rattle.laws.specs.Definitions.{pick_n, least}
use Rattle.kinds.specs.declared.Side.{Side}
use Rattle.kinds.specs.declared.Side.TheVariants.{Buy, Sell}
use Rattle.kinds.specs.Sides.{side_of}
use Rattle.book.specs.Book.{words_of}
use Rattle.levels.specs.declared.Level.{Level}
use Rattle.levels.specs.Totals.{total}
use Rattle.levels.specs.Levels.{orders_at, level_at, some_at, highest, lowest, all_prices, best_where, better, checked, best_of, next_of}
use Rattle.levels.specs.Ticks.{price_at, ticks_to, first_tick, level_from}
use Rattle.refusals.specs.declared.Refusal.{Refusal}

-- ---- prices and ticks: one for the other

pub ticks_price : (side : Side) (i : ℕ) → i < all_prices → ticks_to side (price_at side i) ≡ i
ticks_price Buy i l = omega arith
ticks_price Sell i l = refl

pub price_ticks : (side : Side) (p : ℕ) → p < all_prices → price_at side (ticks_to side p) ≡ p
price_ticks Buy p l = omega arith
price_ticks Sell p l = refl

pub ticks_lt : (side : Side) (p : ℕ) → p < all_prices → ticks_to side p < all_prices
ticks_lt Buy p l = omega arith
ticks_lt Sell p l = l

-- a better price is fewer ticks
pub better_fewer : (side : Side) (p q : ℕ) → p < all_prices → better side p q ≡ nat_lt (ticks_to side p) (ticks_to side q)
better_fewer Buy p q l = ⊎_elim
    (λ (c : q < p). lt-ltb q p c ∙ sym (lt-ltb (4294967295 - p) (4294967295 - q) (omega arith)))
    (λ (c : p ≤ q). le-ltb q p c ∙ sym (le-ltb (4294967295 - p) (4294967295 - q) (omega arith)))
    (lt-or-le q p)
better_fewer Sell p q l = refl

-- ---- the first tick

-- how many orders stand i ticks from the best price possible
abbrev pub count_at : List ℕ → ℕ → ℕ → Side → ℕ → ℕ
count_at b k l side i = total (orders_at l side (price_at side i)) b k

-- none stand from the tick `from` on and before the tick i
abbrev pub NoneBefore : List ℕ → ℕ → ℕ → Side → ℕ → ℕ → Type 0
NoneBefore b k l side from i = (j : ℕ) → from ≤ j → j < i → count_at b k l side j ≡ 0

module _ (b : List ℕ) (k l : ℕ) (side : Side) (from to : ℕ) where
  pub first-le : first_tick b k l side from to ≤ to
  unfolding first_tick
  first-le = least-le (λ i. nat_le from i && some_at b k l side (price_at side i)) to

  -- nothing stands before the first tick, whether it is below `to` or not
  pub first_none : NoneBefore b k l side from (first_tick b k l side from to)
  unfolding first_tick some_at
  first_none j h m =
      let e : (nat_le from j && some_at b k l side (price_at side j)) ≡ false = least_none (λ i. nat_le from i && some_at b k l side (price_at side i)) to j m in
      let z : some_at b k l side (price_at side j) ≡ false = rw (le-leb from j h) at e in
      omega (arith, ltb-false 0 (count_at b k l side j) z)

  -- at the first tick below `to` an order stands, and it is not before `from`
  pub stands_first : let i = first_tick b k l side from to in i < to → (from ≤ i) × (some_at b k l side (price_at side i) ≡ true)
  unfolding first_tick
  stands_first m =
      let e = least_at (λ i. nat_le from i && some_at b k l side (price_at side i)) to m in
      (leb-true _ _ (and_left (nat_le from _) _ e), and_right (nat_le from _) _ e)

  pub stands_none : first_tick b k l side from to ≡ to → NoneBefore b k l side from to
  stands_none e = subst (NoneBefore b k l side from) e first_none

  -- a tick before which none stand is the first, if an order stands there or it is `to`
  pub first_is : (i : ℕ) → i ≤ to → NoneBefore b k l side from i → (i < to → (from ≤ i) × (0 < count_at b k l side i))
      → first_tick b k l side from to ≡ i
  unfolding first_tick some_at
  first_is i m none here =
      least_is (λ i. nat_le from i && some_at b k l side (price_at side i)) to i m
      (λ j h. ⊎_elim
      (λ (c : j < from). rw (lt-leb from j c))
      (λ (c : from ≤ j). rw (le-leb from j c, none j c h))
      (lt-or-le j from))
      (λ h. rw (le-leb from i (here h).0, lt-ltb 0 (count_at b k l side i) (here h).1))

-- ---- the best level is the first tick's

-- the highest is the lowest counted from the other end
mirror : (passes : ℕ → Bool) (level : ℕ → Level) (n : ℕ)
    → highest passes level n ≡ lowest (λ i. passes (n - suc i)) (λ i. level (n - suc i)) n
unfolding highest lowest least pick_n
mirror passes level zero = refl
mirror passes level (suc n) = simp (suc-sub-suc, sub-one) (go (passes n) (mirror passes level n))
  where
    go : (c : Bool) {q : Result (Option Level) Refusal} → q ≡ lowest (λ i. passes (n - suc i)) (λ i. level (n - suc i)) n
        → cond c (Ok (Some (level n))) q
        ≡ (let i = pick_n c zero (suc (least (λ i. passes (n - suc i)) n)) in cond (nat_lt i (suc n)) (Ok (Some (level (n - i)))) (Ok None))
    go true e = rw (lt-ltb 0 (suc n) (omega arith), sub-zero)
    go false e = e ∙ rw (leb-suc-suc (suc (least (λ i. passes (n - suc i)) n)) n)

-- the best level of those that pass is that of the first tick that does
pub ticked : (b : List ℕ) (k l : ℕ) (side : Side) (passes : ℕ → Bool)
    → best_where b k l side passes
    ≡ lowest (λ i. passes (price_at side i) && some_at b k l side (price_at side i)) (λ i. level_at b k l side (price_at side i)) all_prices
unfolding best_where
ticked b k l Buy passes = simp (suc-sub-suc 4294967295) at (mirror (λ p. passes p && some_at b k l Buy p) (level_at b k l Buy) all_prices)
ticked b k l Sell passes = refl

pub from_first : (b : List ℕ) (k l : ℕ) (side : Side) (from : ℕ) → let i = first_tick b k l side from all_prices in
    level_from b k l side from ≡ cond (nat_lt i all_prices) (Ok (Some (level_at b k l side (price_at side i)))) (Ok None)
unfolding level_from first_tick lowest
from_first b k l side from =
    ticked b k l side (λ p. leb from (ticks_to side p))
    ∙ ap (λ i. cond (nat_lt i all_prices) (Ok (Some (level_at b k l side (price_at side i)))) (Ok None))
    (least_ext _ _ all_prices λ i h. ap (λ n. nat_le from n && some_at b k l side (price_at side i)) (ticks_price side i h))

-- ---- the questions

pub best_from : (b : List ℕ) (l byte : ℕ) → best_of b l byte ≡ checked b byte (level_from b (words_of (length b)) l (side_of byte) 0)
unfolding best_of level_from
best_from b l byte = λ i. checked b byte (best_where b (words_of (length b)) l (side_of byte) (λ p. sym (leb-zero (ticks_to (side_of byte) p)) i))

pub next_from_lem : (b : List ℕ) (l byte p : ℕ) → p < all_prices
    → next_of b l byte p ≡ checked b byte (level_from b (words_of (length b)) l (side_of byte) (ticks_to (side_of byte) p + 1))
unfolding next_of level_from
next_from_lem b l byte p h = rw add-one λ i. checked b byte (best_where b (words_of (length b)) l (side_of byte) (λ q. better_fewer (side_of byte) p q h i))
