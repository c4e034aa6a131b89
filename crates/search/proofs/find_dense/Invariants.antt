-- `search::find_dense` meets its contract. The loop's invariant: no slot of the map number below the eight is live and holds
-- `want`. Assumes nothing.
use Prim.Native.Nat.{ℕ, ◌*◌, ◌<◌}
use mathlib.Core.Path.{◌≡◌}
use mathlib.Core.Bool.{false}
use Rattle.book.specs.Words.{in_word}
use Rattle.search.proofs.find_dense.Given as goal

abbrev pub invariant-loop-eighth : goal.invariant-loop-eighth
invariant-loop-eighth l = (t : ℕ) → t < 8 * l.eighth → in_word l.book.numbers.now l.book.k l.want l.j t ≡ false
