-- A side and its byte (01): B buys, S sells. Assumes nothing.
use Rattle.std.specs.Prelude.{ℕ, Bool, cond, ◌||◌, eqb}
use Rattle.kinds.specs.declared.Side.{Side}
use Rattle.kinds.specs.declared.Side.TheVariants.{Buy, Sell}

abbrev pub side_byte : Side → ℕ
side_byte Buy = 66
side_byte Sell = 83

-- the only other byte that a side may have is S
abbrev pub side_of : ℕ → Side
side_of b = cond (eqb b 66) Buy Sell

-- B or S
unfoldable pub good_side : ℕ → Bool
good_side v = eqb v 66 || eqb v 83
