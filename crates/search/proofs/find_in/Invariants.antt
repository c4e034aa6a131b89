-- `search::find_in` meets its contract. The loop's invariant: no slot of the map numbers below j is live and holds `want`.
-- Assumes nothing.
use Prim.Native.Nat.{ℕ, ◌*◌, ◌<◌}
use mathlib.Core.Path.{◌≡◌}
use mathlib.Core.Bool.{false}
use Rattle.book.specs.Book.{holds}
use Rattle.search.proofs.find_in.Given as goal

abbrev pub invariant-loop-j : goal.invariant-loop-j
invariant-loop-j l = (i : ℕ) → i < 64 * l.j → holds l.numbers l.k l.want i ≡ false
