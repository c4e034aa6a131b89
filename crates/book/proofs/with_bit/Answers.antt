-- `book::with_bit` meets its contract by `or-bit`. Assumes nothing.
use mathlib.Core.Path.{ap, ◌∙◌}
use Prim.Native.Nat.{ℕ}
use lib.Bits.{bit_or}
use Rattle.laws.specs.Bit.{or-bit}
use Rattle.book.proofs.with_bit.Goals as goal

pub returns : goal.returns
returns c = ap (λ (x : ℕ). bit_or c.args.w x) c.only_bit.ensures ∙ or-bit c.args.i c.args.w
