-- The loop's invariant, `Filling`: the first bytes of out are the records shown so far, and the rest of it is as it came. The
-- measure is the room that is left. Assumes nothing.
use Prim.Native.Nat.{◌-◌}
use lib.ListN.{length}
use Rattle.ladders.specs.Ladders.{first_of}
use Rattle.ladders.proofs.Filling.{Filling}
use Rattle.ladders.proofs.fill.Given as goal

abbrev pub invariant-loop-out : goal.invariant-loop-out
invariant-loop-out l = Filling l.book l.initial.out l.from (first_of l.locates) l.out l.rung l.written

abbrev pub decreases-loop-out : goal.decreases-loop-out
decreases-loop-out l = length l.out - l.written
