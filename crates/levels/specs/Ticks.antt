-- How the code counts: prices in ticks from the best one that 32 bits hold, so that on either side a better price is fewer ticks.
-- Assumes nothing.
use Rattle.std.specs.Prelude.{ℕ, ◌-◌, ◌&&◌, leb, List, nat_le, Option, Result}
use Rattle.laws.specs.Definitions.{least}
use Rattle.kinds.specs.declared.Side.{Side}
use Rattle.kinds.specs.declared.Side.TheVariants.{Buy, Sell}
use Rattle.levels.specs.Levels.{some_at, best_where}
use Rattle.levels.specs.declared.Level.{Level}
use Rattle.refusals.specs.declared.Refusal.{Refusal}

-- the price i ticks from the best one possible: the highest for buys, the lowest for sells
abbrev pub price_at : Side → ℕ → ℕ
price_at Buy i = 4294967295 - i
price_at Sell i = i

-- how many ticks a price is from the best one possible
abbrev pub ticks_to : Side → ℕ → ℕ
ticks_to Buy price = 4294967295 - price
ticks_to Sell price = price

-- the first tick not before `from` and below `to` at which an order stands; `to` where there is none
unfoldable pub first_tick : List ℕ → ℕ → ℕ → Side → ℕ → ℕ → ℕ
first_tick b k locate side from to = least (λ i. nat_le from i && some_at b k locate side (price_at side i)) to

-- the best level not before the tick `from`, or none
unfoldable pub level_from : List ℕ → ℕ → ℕ → Side → ℕ → Result (Option Level) Refusal
level_from b k locate side from = best_where b k locate side (λ p. leb from (ticks_to side p))
