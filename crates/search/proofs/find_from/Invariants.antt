-- `search::find_from` meets its contract. The loop's invariant: no slot of the map number below t is live and holds `want`.
-- Assumes nothing.
use Prim.Native.Nat.{ℕ, ◌<◌}
use mathlib.Core.Path.{◌≡◌}
use mathlib.Core.Bool.{false}
use Rattle.book.specs.Words.{in_word}
use Rattle.search.proofs.find_from.Given as goal

abbrev pub invariant-loop-t : goal.invariant-loop-t
invariant-loop-t l = (i : ℕ) → i < l.t → in_word l.book.numbers.now l.book.k l.want l.j i ≡ false
