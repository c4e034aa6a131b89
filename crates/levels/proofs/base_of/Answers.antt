-- The base is asked for only where the ticks begin below 2^32. Assumes nothing.
use Rattle.std.proofs.Common.{arith}
use Rattle.levels.specs.Glances.{Based}
use Rattle.levels.proofs.base_of.Goals as goal

pub returns-then-w-ge4294967296 : goal.returns-then-w-ge4294967296
unfolding Based
returns-then-w-ge4294967296 c = λ l. absurd (omega (arith, c.if-w-ge4294967296.true))

pub returns : goal.returns
unfolding Based
returns c = λ l. omega (arith, c.byte.ensures.0)
