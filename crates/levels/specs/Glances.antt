-- What one live slot is to a pass that has seen orders down to the tick `most`: unsound, nothing, or an order that is wanted and
-- no worse. With it the two numbers by which one compare of packed numbers tells that. Assumes nothing.
use Rattle.std.specs.Prelude.{◌≡◌, ℕ, ◌+◌, ◌-◌, ◌*◌, ◌/◌, ◌%◌, ◌<◌, min, Bool, cond, ◌&&◌, ◌==◌, nat_le, Option, Some, None}
use Rattle.kinds.specs.Sides.{side_byte, good_side}
use Rattle.text.specs.Text.{text}
use Rattle.orders.specs.declared.Order.{Order}
use Rattle.orders.specs.Order.{remaining}
use Rattle.levels.specs.declared.Wanted.{Wanted}
use Rattle.levels.specs.declared.Glimpse.{Glimpse}
use Rattle.levels.specs.declared.Glimpse.TheVariants as glimpse
use Rattle.levels.specs.Ticks.{ticks_to}
use Rattle.levels.specs.Visits.{is_wanted}

-- wanted, and no worse than the tick `most`
abbrev pub matters : Wanted → ℕ → Order → Bool
matters w most o = is_wanted w o && nat_le (ticks_to w.side o.price.0) most

unfoldable pub glanced : Wanted → ℕ → Option Order → Glimpse
glanced w most (Some o) = cond (matters w most o) (glimpse.Stands (ticks_to w.side o.price.0) (remaining o)) glimpse.Other
glanced w most None = glimpse.Unsound

-- of what `sound` asks, the part that is in letters: the side, the attribution and the low byte
unfoldable pub lettered : ℕ → Bool
lettered n3 = good_side (n3 / 1099511627776 % 256) && (text 4 (n3 / 256 % 4294967296) && n3 % 256 == 0)

-- ---- the compare

-- a stock's side in one number, as the top of a slot's fourth number has it
abbrev pub stock_side : ℕ → ℕ → ℕ
stock_side locate letter = locate * 256 + letter

-- where the ticks that are wanted begin
unfoldable pub Based : Wanted → ℕ → Type 0
Based w base = w.from < 4294967296 → base ≡ stock_side w.locate.0 (side_byte w.side) * 1099511627776 + w.from

-- how many ticks from there on are wanted and no worse than `most`
unfoldable pub room_of : Wanted → ℕ → ℕ
room_of w most = min (min w.to 4294967296) (most + 1) - w.from
