-- NSDQ is a text: that computes. Assumes nothing.
use mathlib.Core.Path.{◌≡◌, sym}
use Prim.Native.Nat.{ℕ}
use native.Mathlib.Omega.{arith}
use Rattle.laws.specs.Bools.{fault}
use Rattle.text.specs.Text.{text, letters, letter}
use Rattle.orders.proofs.attribution_fault.Goals as goal

nsdq_text : (a : ℕ) → a ≡ 1314079825 → fault (text 4 a) ≡ 0
unfolding fault text letters letter
nsdq_text a e = rw e

pub returns-then-a-eq1314079825 : goal.returns-then-a-eq1314079825
returns-then-a-eq1314079825 c = sym (nsdq_text c.args.a (omega arith))
