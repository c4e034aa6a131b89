-- The cases of an answer about levels: a question gives what it asks for, or a refusal with a number that is not 0
-- (`checked_has`), and the best level of those that pass says what it should (`where_says`). Assumes nothing.
use Rattle.refusals.specs.declared.Refusal.TheVariants.{Book, Field, Shape}
use Rattle.std.specs.Prelude.{◌≡◌, refl, ◌≢◌, true, false, cond, ◌&&◌, List, eqb, ltb, length, Option, Result, Some, None, Ok, Err}
use Rattle.std.proofs.Common.{sym, ◌∙◌, arith, ltb-true, ltb-false}
use Rattle.std.proofs.Math.Bool.{Bool}
use Prim.Native.Nat.{ℕ, ◌<◌}
use Rattle.laws.specs.Bools.{and_left, and_right}
use Rattle.laws.specs.Definitions.{least}
use Rattle.laws.specs.Least.{least_at, least_none}
use Rattle.kinds.specs.declared.Side.{Side}
use Rattle.kinds.specs.Sides.{good_side}
use Rattle.book.specs.Book.{words_of}
use Rattle.levels.specs.declared.Level.{Level}
use Rattle.levels.specs.Totals.{total}
use Rattle.levels.specs.Levels.{orders_at, unsoundness, level_at, some_at, lowest, all_prices, best_where, better, no_quote, checked}
use Rattle.levels.specs.Ticks.{price_at, ticks_to}
use Rattle.levels.specs.TickLaws.{ticks_price, price_ticks, ticks_lt, better_fewer, ticked}
use Rattle.ask_theorems.specs.Statements.{IsLevel, NoneWhere}
use Rattle.refusals.specs.declared.Refusal.{Refusal}
use Rattle.refusals.specs.Refusals.{refusal_number, number_some}

-- what holds of each refusal and of what is asked for holds of the answer
pub checked_has : (P : Result (Option Level) Refusal → Type 0) (b : List ℕ) (byte : ℕ) (q : Result (Option Level) Refusal)
    → ((r : Refusal) → refusal_number r ≢ 0 → P (no_quote r)) → P q → P (checked b byte q)
checked_has P b byte q r h = go (eqb (words_of (length b)) 0) (good_side byte) (eqb (total unsoundness b (words_of (length b))) 0)
  where
    go : (t u v : Bool) → P (cond t (no_quote Shape) (cond u (cond v q (no_quote Book)) (no_quote Field)))
    go true u v = r Shape (number_some Shape)
    go false false v = r Field (number_some Field)
    go false true false = r Book (number_some Book)
    go false true true = h

-- ---- the best level of those that pass

-- what it says: it stands at a price that passes, and none stands at a better one; and none: none stands where one passes
abbrev pub Says : List ℕ → ℕ → ℕ → Side → (ℕ → Bool) → Result (Option Level) Refusal → Type 0
Says b k l side passes (Err r) = ⊥
Says b k l side passes (Ok None) = NoneWhere b k l side passes
Says b k l side passes (Ok (Some x)) =
    IsLevel b k l side x × (passes x.price ≡ true) × NoneWhere b k l side (λ p. passes p && better side p x.price)

module _ (b : List ℕ) (k l : ℕ) (side : Side) (passes : ℕ → Bool) where
  pub where_says : Says b k l side passes (best_where b k l side passes)
  unfolding lowest level_at some_at
  where_says = rw ticked (go (ltb n all_prices) refl)
    where
      test : ℕ → Bool
      test i = passes (price_at side i) && some_at b k l side (price_at side i)

      n : ℕ
      n = least test all_prices

      none : (q : ℕ) → q < all_prices → ticks_to side q < n → passes q ≡ true → total (orders_at l side q) b k ≡ 0
      none q small m e =
          let f : some_at b k l side q ≡ false = rw (price_ticks side q small, e) at (least_none test all_prices (ticks_to side q) m) in
          omega (arith, ltb-false 0 (total (orders_at l side q) b k) f)

      go : (t : Bool) → ltb n all_prices ≡ t → Says b k l side passes (cond t (Ok (Some (level_at b k l side (price_at side n)))) (Ok None))
      go true h =
          let m = ltb-true n all_prices h in
          let e = least_at test all_prices m in (
            record { shares = refl; orders = refl; some = ltb-true _ _ (and_right (passes (price_at side n)) _ e) },
            and_left (passes (price_at side n)) _ e,
            λ q small x.
                let f = sym (better_fewer side q (price_at side n) small) ∙ and_right (passes q) _ x in
                none q small (rw (ticks_price side n m) at (ltb-true (ticks_to side q) (ticks_to side (price_at side n)) f)) (and_left (passes q) _ x),
          )
      go false h = λ q small e. none q small (omega (arith, ticks_lt side q small, ltb-false n all_prices h)) e

  -- it is no refusal
  pub where_has : (P : Result (Option Level) Refusal → Type 0) → ((x : Level) → P (Ok (Some x))) → P (Ok None) → P (best_where b k l side passes)
  where_has P f g = go (best_where b k l side passes) where_says
    where
      go : (q : Result (Option Level) Refusal) → Says b k l side passes q → P q
      go (Err r) s = absurd s
      go (Ok None) s = g
      go (Ok (Some x)) s = f x
