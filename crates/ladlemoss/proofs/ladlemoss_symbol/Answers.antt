-- The place that was found is the one that is written. Assumes nothing.
use mathlib.Core.Path.{ap}
use Rattle.ladlemoss.specs.Face.{part_row}
use Rattle.ladlemoss.proofs.ladlemoss_symbol.Goals as goal

pub returns : goal.returns
returns c = ap part_row c.part_of-part.ensures
