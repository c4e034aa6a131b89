-- `book::only_bit` meets its contract: the shift is 1 * 2 ^ i, which does not wrap. Assumes nothing.
use mathlib.Core.Path.{ap, ◌∙◌}
use Prim.Native.Nat.{ℕ, ◌%◌, ◌^◌}
use native.Mathlib.Nat.{one-mul, mod-eq_of_lt}
use lib.Pow.{pow-lt}
use Rattle.book.proofs.only_bit.Goals as goal

pub returns : goal.returns
returns c = ap (λ (x : ℕ). x % 2 ^ 64) (one-mul (2 ^ c.args.i)) ∙ mod-eq_of_lt (pow-lt c.requires)
