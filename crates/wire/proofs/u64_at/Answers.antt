-- Four bytes and then four. Assumes nothing.
use native.Mathlib.Omega.{arith}
use Rattle.laws.specs.FieldLaws.{join}
use Rattle.wire.proofs.u64_at.Goals as goal

pub returns : goal.returns
returns c =
    let a = c.args in
    omega (arith, join a.s.now a.at 4 4)
