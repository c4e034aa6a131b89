-- Each branch is the case of `joined` that its test decides. Assumes nothing.
use Rattle.std.proofs.Common.{arith, le-ltb, lt-ltb, eq-eqb}
use Rattle.levels.proofs.join.Goals as goal

pub returns-then-ticks-best : goal.returns-then-ticks-best
returns-then-ticks-best c = rw (lt-ltb _ _ c.if-ticks-best.true)

pub returns : goal.returns
returns c =
    rw (le-ltb c.args.ticks c.args.best.ticks c.if-ticks-best.false, eq-eqb c.args.ticks c.args.best.ticks (omega (arith, c.if-ticks-best.false)))
