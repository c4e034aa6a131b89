-- `book::without_bit` meets its contract: what is taken off is 0, or 2 ^ i where the bit is 1 and w is at least that.
-- Assumes nothing.
use mathlib.Core.Logic.{⊎_elim}
use native.Mathlib.Nat.{lt_of_le_of_lt}
use native.Mathlib.Omega.{arith}
use Prim.Native.Nat.{ℕ, ◌*◌, ◌^◌, ◌≤◌}
use Rattle.laws.specs.Bit.{bit_cases, pow-le}
use Rattle.laws.specs.Definitions.{bit, clear_bit}
use Rattle.book.proofs.without_bit.Goals as goal

taken-le : (w i : ℕ) → bit w i * 2 ^ i ≤ w
taken-le w i = ⊎_elim (λ e. rw e (omega arith)) (λ e. rw e (omega (arith, pow-le i w e))) (bit_cases w i)

pub overflow_mul-result : goal.overflow_mul-result
overflow_mul-result c =
    rw (c.bit_of.ensures, c.only_bit.ensures)
    (record { fits = lt_of_le_of_lt (taken-le _ _) c.ranges.w.fits })

pub overflow_sub-result : goal.overflow_sub-result
overflow_sub-result c = rw (c.bit_of.ensures, c.only_bit.ensures) (taken-le _ _)

pub returns : goal.returns
unfolding clear_bit
returns c = rw (c.bit_of.ensures, c.only_bit.ensures)
