-- The meaning of a big-endian field of any width: the w bytes of s from `at` on, the most significant first.
-- It is said by recursion on the width from the last byte, so that one more byte is one more digit. Assumes nothing.
use Rattle.std.specs.Prelude.{ℕ, zero, suc, ◌+◌, ◌*◌, ◌^◌, ◌<◌, ◌≡◌, List, get_or}

unfoldable pub field : List ℕ → ℕ → ℕ → ℕ
field s at zero = 0
field s at (suc w) = field s at w * 256 + get_or s (at + w) 0

-- what a reader of a field ensures: its value, and the bound that a narrowing asks
pub record IsField (s : List ℕ) (at w r : ℕ) : Type 0 where
  pub value : r ≡ field s at w
  pub small : r < 256 ^ w
