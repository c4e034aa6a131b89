-- The measure is what is left of the rungs: a buffer that has room for a record gets on. Assumes nothing.
use Rattle.std.proofs.Common.{◌-◌}
use Rattle.replay.proofs.write_levels.Given as goal

abbrev pub decreases-loop-rung : goal.decreases-loop-rung
decreases-loop-rung g l = l.end - l.rung
