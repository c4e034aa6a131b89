-- Two bytes and then four. Assumes nothing.
use native.Mathlib.Omega.{arith}
use Rattle.laws.specs.FieldLaws.{join}
use Rattle.wire.proofs.u48_at.Goals as goal

pub returns : goal.returns
returns c =
    let a = c.args in
    omega (arith, join a.s.now a.at 2 4)
