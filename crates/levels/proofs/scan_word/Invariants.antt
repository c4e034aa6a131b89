-- `levels::scan_word` meets its contract. The loop's invariant: `Sweep`, what was seen so far and m with the one bits of the slots
-- that are left, and the room is that of the best so far. The measure is m. Assumes nothing.
use Rattle.std.proofs.Common.{◌≡◌}
use Rattle.levels.specs.Glances.{room_of}
use Rattle.levels.specs.Sweep as sweep
use Rattle.levels.proofs.scan_word.Given as goal

abbrev pub invariant-loop-m : goal.invariant-loop-m
invariant-loop-m l = sweep.Sweep l.w l.book.numbers.now l.book.k l.j l.now l.m × (l.room ≡ room_of l.w l.now.ticks)

abbrev pub decreases-loop-m : goal.decreases-loop-m
decreases-loop-m l = l.m
