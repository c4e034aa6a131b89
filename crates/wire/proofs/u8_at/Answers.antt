-- One byte is a field of width 1. Assumes nothing.
use mathlib.Core.Path.{sym}
use Rattle.laws.specs.FieldLaws.{field_one}
use Rattle.wire.proofs.u8_at.Goals as goal

pub returns : goal.returns
returns c = sym (field_one c.args.s.now c.args.at)
