-- Bits of a number, the least number that passes a test, and a sum over the numbers below n. Their laws stand in Bit, Least and Sum.
-- Assumes nothing.
use Rattle.std.specs.Prelude.{Bool, true, false, ℕ, zero, suc, ◌+◌, ◌-◌, ◌*◌, ◌/◌, ◌%◌, ◌^◌}

-- bit j of w, 0 or 1
unfoldable pub bit : ℕ → ℕ → ℕ
bit w j = w / 2 ^ j % 2

-- bit i made 1, whatever it was
unfoldable pub set_bit : ℕ → ℕ → ℕ
set_bit w i = w + (1 - bit w i) * 2 ^ i

-- bit i made 0, whatever it was
unfoldable pub clear_bit : ℕ → ℕ → ℕ
clear_bit w i = w - bit w i * 2 ^ i

-- the branch that a test picks
unfoldable pub pick_n : Bool → ℕ → ℕ → ℕ
pick_n true a b = a
pick_n false a b = b

-- the least number below n that passes the test p, or n where none does
unfoldable pub least : (ℕ → Bool) → ℕ → ℕ
unfolding pick_n
least p zero = zero
least p (suc n) = let r = suc (least (λ i. p (suc i)) n) in pick_n (p zero) zero r

-- the sum of f over the numbers below n; a count is the sum of 0s and 1s
unfoldable pub sum_to : (ℕ → ℕ) → ℕ → ℕ
sum_to f zero = zero
sum_to f (suc n) = sum_to f n + f n
