-- `search::none_of_eight` meets its contract. The loop's invariant: none of the first i of the eight slots has `want` as its
-- number 0. Assumes nothing.
use Prim.Native.Nat.{ℕ, ◌+◌, ◌*◌, ◌<◌}
use mathlib.Core.Path.{◌≡◌}
use lib.ListN.{get_or}
use Rattle.search.proofs.none_of_eight.Given as goal

abbrev pub invariant-loop-i : goal.invariant-loop-i
invariant-loop-i l = (t : ℕ) → t < l.i → get_or l.book (l.a + 4 * t) 0 ≡ l.want → ⊥
