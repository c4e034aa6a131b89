-- Which numbers are prices (01, 'What a well-formed message holds'): a Price (4) is at most 2,000,000,000, and zero is one.
-- Assumes nothing.
use Rattle.std.specs.Prelude.{ℕ, cond, leb, Result, Ok, Err}
use Rattle.kinds.specs.declared.Price.{Price}
use Rattle.kinds.specs.declared.TooHigh.{TooHigh}

-- 200,000.0000
unfoldable pub maximum : ℕ
maximum = 2000000000

unfoldable pub admission : ℕ → Result Price TooHigh
unfolding maximum
admission n = cond (leb n maximum) (Ok (record { 0 = n })) (Err (record {}))
