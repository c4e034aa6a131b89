-- The loop's invariant: what the search from the rung comes to is what it comes to from the first one. The measure is what is left of
-- the rungs. Assumes nothing.
use Prim.Native.Nat.{◌-◌}
use mathlib.Core.Path.{◌≡◌}
use Rattle.ladders.specs.Search.{next_from}
use Rattle.ladders.proofs.next_from.Given as goal

abbrev pub invariant-loop-rung : goal.invariant-loop-rung
invariant-loop-rung l = next_from l.book l.rung l.to ≡ next_from l.book l.from l.to

abbrev pub decreases-loop-rung : goal.decreases-loop-rung
decreases-loop-rung l = l.to - l.rung
