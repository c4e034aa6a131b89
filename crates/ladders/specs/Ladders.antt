-- THE DEFINITION of the replay program's levels (01): by rising locate, the buys and then the sells of each, best first. A rung is
-- a number that rises in just this order, so the levels are those of all rungs at which an order stands. Assumes nothing.
use Rattle.std.specs.Prelude.{ℕ, zero, suc, ◌+◌, ◌*◌, ◌/◌, ◌%◌, Bool, false, cond, ◌&&◌, List, [], ◌++◌, eqb, leb, ltb, length, drop}
use Rattle.laws.specs.Definitions.{least}
use Rattle.kinds.specs.declared.Side.{Side}
use Rattle.kinds.specs.declared.Side.TheVariants.{Buy, Sell}
use Rattle.book.specs.Book.{words_of}
use Rattle.levels.specs.declared.Level.{Level}
use Rattle.levels.specs.Totals.{total}
use Rattle.levels.specs.Levels.{unsoundness, all_prices, some_at, level_at}
use Rattle.levels.specs.Ticks.{price_at}
use Rattle.records.specs.Records.{level_record}
use Rattle.ladders.specs.declared.Filled.{Filled}

-- ---- rungs

-- a stock's rungs: those of its buys, then those of its sells; each side's prices from the best one possible on
abbrev pub stock_rungs : ℕ
stock_rungs = 8589934592

abbrev pub first_of : ℕ → ℕ
first_of locate = locate * stock_rungs

abbrev pub locate_at : ℕ → ℕ
locate_at p = p / stock_rungs

abbrev pub side_at : ℕ → Side
side_at p = cond (eqb (p / all_prices % 2) 0) Buy Sell

abbrev pub tick_at : ℕ → ℕ
tick_at p = p % all_prices

-- the level of a rung
abbrev pub level_there : List ℕ → ℕ → ℕ → Level
level_there b k p = level_at b k (locate_at p) (side_at p) (price_at (side_at p) (tick_at p))

-- an order stands there
unfoldable pub stands_there : List ℕ → ℕ → ℕ → Bool
stands_there b k p = some_at b k (locate_at p) (side_at p) (price_at (side_at p) (tick_at p))

-- ---- records

abbrev pub kind_of : Side → ℕ
kind_of Buy = 98
kind_of Sell = 115

abbrev pub levelled : ℕ → ℕ → Level → List ℕ
levelled kind locate l = level_record kind locate l.price l.shares l.orders

unfoldable pub record_at : List ℕ → ℕ → ℕ → List ℕ
record_at b k p = levelled (kind_of (side_at p)) (locate_at p) (level_there b k p)

-- THE LEVELS of n rungs from one on
unfoldable pub levels_from : List ℕ → ℕ → ℕ → ℕ → List ℕ
levels_from b k from zero = []
levels_from b k from (suc n) = cond (stands_there b k from) (record_at b k from) [] ++ levels_from b k (from + 1) n

-- ---- as many as fit into a buffer, and where to go on

-- the book is one, and every live slot of it is sound: else the questions are refused, and there are no levels to show
unfoldable pub readable : List ℕ → Bool
readable b = cond (eqb (words_of (length b)) 0) false (eqb (total unsoundness b (words_of (length b))) 0)

-- the first rung not before `from` and below `to` at which an order stands; `to` where there is none
unfoldable pub first_rung : List ℕ → ℕ → ℕ → ℕ
first_rung b from to =
    cond (readable b) (least (λ p. leb from p && stands_there b (words_of (length b)) p) to) to

-- the records written, and the rung to go on from; `to` when there is none left
pub record Shown : Type 0 where
  pub records : List ℕ
  pub rung : ℕ

abbrev pub level_behind : List ℕ → Shown → Shown
level_behind first x = record { records = first ++ x.records; rung = x.rung }

-- at most n records
unfoldable pub shown : ℕ → List ℕ → ℕ → ℕ → Shown
shown zero b from to = record { records = []; rung = from }
shown (suc n) b from to =
    cond (ltb (first_rung b from to) to)
    (level_behind (record_at b (words_of (length b)) (first_rung b from to)) (shown n b (first_rung b from to + 1) to))
    (record { records = []; rung = to })

-- ---- what the call leaves

pub record FillLeaves : Type 0 where
  pub filled : Filled
  pub out : List ℕ

abbrev pub fill_leaves : List ℕ → Shown → FillLeaves
fill_leaves out x = record {
  filled = record { rung = x.rung; written = length x.records };
  out = x.records ++ drop (length x.records) out;
}
