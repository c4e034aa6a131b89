-- What is no arm is no row. Assumes nothing.
use Rattle.reader.proofs.Arms.{no_type}
use Rattle.reader.proofs.length_of.Goals as goal

pub returns-in_default : goal.returns-in_default
returns-in_default c = no_type c.in_default.in_default-own.rest
