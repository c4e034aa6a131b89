-- One test knows both letters. Assumes nothing.
use Rattle.kinds.specs.SideLaws.{letter-test}
use Rattle.kinds.proofs.Side.good.Goals as goal

pub returns : goal.returns
returns c = letter-test c.args.byte
