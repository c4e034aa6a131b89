-- What the search for the next level comes to: the first rung at which an order stands, with its level. It goes side by side, and
-- asks each for its best level from a tick on. Assumes nothing.
use Rattle.std.specs.Prelude.{ℕ, ◌+◌, ◌*◌, ◌/◌, cond, Option, Result, Some, None, List, ltb, length}
use Rattle.kinds.specs.Sides.{side_byte}
use Rattle.book.specs.Book.{words_of}
use Rattle.levels.specs.declared.Level.{Level}
use Rattle.levels.specs.Levels.{all_prices, checked}
use Rattle.levels.specs.Ticks.{level_from}
use Rattle.ladders.specs.Ladders.{locate_at, side_at, tick_at, level_there, kind_of, levelled, first_rung}
use Rattle.refusals.specs.declared.Refusal.{Refusal}

-- the rung i ticks from the best price possible on the side whose rung p is, and the first rung of the side after it
abbrev pub on_side : ℕ → ℕ → ℕ
on_side p i = p / all_prices * all_prices + i

abbrev pub side_after : ℕ → ℕ
side_after p = (p / all_prices + 1) * all_prices

-- the best level of that side not before the rung
unfoldable pub quote_at : List ℕ → ℕ → Result (Option Level) Refusal
quote_at b p = checked b (side_byte (side_at p)) (level_from b (words_of (length b)) (locate_at p) (side_at p) (tick_at p))

unfoldable pub next_from : List ℕ → ℕ → ℕ → Option (ℕ × Level)
next_from b from to =
    cond (ltb (first_rung b from to) to)
    (Some (first_rung b from to, level_there b (words_of (length b)) (first_rung b from to))) None

-- the record of a level at a rung
abbrev pub record_row : ℕ → Level → List ℕ
record_row p l = levelled (kind_of (side_at p)) (locate_at p) l
