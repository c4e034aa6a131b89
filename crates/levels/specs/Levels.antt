-- THE DEFINITION of the questions about levels (01, 'What the desk may ask'), over the orders and not over their slots: a level's
-- shares and orders are totals, and the best price is the highest buy and the lowest sell. Assumes nothing.
use Rattle.refusals.specs.declared.Refusal.TheVariants.{Book, Field, Shape}
use Rattle.std.specs.Prelude.{ℕ, zero, suc, Bool, true, false, cond, ◌&&◌, List, length, ◌==◌, nat_lt, Option, Result, Some, None, Ok, Err}
use Rattle.laws.specs.Definitions.{least}
use Rattle.kinds.specs.declared.Side.{Side}
use Rattle.kinds.specs.declared.Side.TheVariants.{Buy, Sell}
use Rattle.kinds.specs.Sides.{side_of, good_side}
use Rattle.book.specs.Book.{words_of}
use Rattle.orders.specs.declared.Order.{Order}
use Rattle.orders.specs.Order.{remaining}
use Rattle.levels.specs.declared.Level.{Level}
use Rattle.levels.specs.Totals.{total}
use Rattle.refusals.specs.declared.Refusal.{Refusal}

-- ---- weights

abbrev pub same_side : Side → Side → Bool
same_side Buy Buy = true
same_side Buy Sell = false
same_side Sell Buy = false
same_side Sell Sell = true

-- an order stands at a level: its locate, side and price are the level's
abbrev pub stands_at : ℕ → Side → ℕ → Order → Bool
stands_at locate side price o = o.locate.0 == locate && (same_side o.side side && o.price.0 == price)

-- what remains of the orders at a level
abbrev pub shares_at : ℕ → Side → ℕ → Option Order → ℕ
shares_at locate side price (Some o) = cond (stands_at locate side price o) (remaining o) 0
shares_at locate side price None = 0

-- the orders at a level
abbrev pub orders_at : ℕ → Side → ℕ → Option Order → ℕ
orders_at locate side price (Some o) = cond (stands_at locate side price o) 1 0
orders_at locate side price None = 0

abbrev pub unsoundness : Option Order → ℕ
unsoundness (Some o) = 0
unsoundness None = 1

-- ---- a level, and the best that stands

-- the level of a price, whether an order stands there or none: shares and orders are then 0
unfoldable pub level_at : List ℕ → ℕ → ℕ → Side → ℕ → Level
level_at b k locate side price = record {
  price = price;
  shares = total (shares_at locate side price) b k;
  orders = total (orders_at locate side price) b k;
}

-- an order stands at the price
unfoldable pub some_at : List ℕ → ℕ → ℕ → Side → ℕ → Bool
some_at b k locate side price = nat_lt 0 (total (orders_at locate side price) b k)

-- the level of the highest price below n that passes, or none
unfoldable pub highest : (ℕ → Bool) → (ℕ → Level) → ℕ → Result (Option Level) Refusal
highest passes level zero = (Ok None)
highest passes level (suc n) = cond (passes n) (Ok (Some (level n))) (highest passes level n)

-- the level of the lowest price below n that passes, or none
unfoldable pub lowest : (ℕ → Bool) → (ℕ → Level) → ℕ → Result (Option Level) Refusal
lowest passes level n = cond (nat_lt (least passes n) n) (Ok (Some (level (least passes n)))) (Ok None)

-- all prices that 32 bits hold
abbrev pub all_prices : ℕ
all_prices = 4294967296

-- of the prices that pass, the best level of a stock's side, or none: the highest buy, the lowest sell
unfoldable pub best_where : List ℕ → ℕ → ℕ → Side → (ℕ → Bool) → Result (Option Level) Refusal
best_where b k locate Buy passes = highest (λ p. passes p && some_at b k locate Buy p) (level_at b k locate Buy) all_prices
best_where b k locate Sell passes = lowest (λ p. passes p && some_at b k locate Sell p) (level_at b k locate Sell) all_prices

-- price p is better than q: higher for buys, lower for sells
abbrev pub better : Side → ℕ → ℕ → Bool
better Buy p q = nat_lt q p
better Sell p q = nat_lt p q

-- ---- the questions

abbrev pub no_quote : Refusal → Result (Option Level) Refusal
no_quote r = Err r

-- 14, then 4 for a side that is neither B nor S, then 13 if any live slot of the book is unsound; else the answer
abbrev pub checked : List ℕ → ℕ → Result (Option Level) Refusal → Result (Option Level) Refusal
checked b byte quote =
    cond (words_of (length b) == 0) (no_quote Shape)
    (cond (good_side byte) (cond (total unsoundness b (words_of (length b)) == 0) quote (no_quote Book)) (no_quote Field))

-- total and count of a level; none there is 0 and 0, an answer
unfoldable pub level_of : List ℕ → ℕ → ℕ → ℕ → Result (Option Level) Refusal
level_of b locate byte price = checked b byte (Ok (Some (level_at b (words_of (length b)) locate (side_of byte) price)))

-- the best level of a stock's side
unfoldable pub best_of : List ℕ → ℕ → ℕ → Result (Option Level) Refusal
best_of b locate byte = checked b byte (best_where b (words_of (length b)) locate (side_of byte) (λ p. true))

-- the next level worse than a price, which need not be a level itself
unfoldable pub next_of : List ℕ → ℕ → ℕ → ℕ → Result (Option Level) Refusal
next_of b locate byte price = checked b byte (best_where b (words_of (length b)) locate (side_of byte) (better (side_of byte) price))
