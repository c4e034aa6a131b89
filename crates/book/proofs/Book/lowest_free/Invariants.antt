-- `Book::lowest_free` meets its contract. The loop's invariant: no slot of the map numbers below j is free. Assumes nothing.
use Prim.Native.Nat.{ℕ, ◌*◌, ◌<◌}
use mathlib.Core.Path.{◌≡◌}
use mathlib.Core.Bool.{false}
use Rattle.book.specs.Book.{is_free}
use Rattle.book.proofs.Book.lowest_free.Given as goal

abbrev pub invariant-loop-j : goal.invariant-loop-j
invariant-loop-j l = (i : ℕ) → i < 64 * l.j → is_free l.self.numbers.now i ≡ false
