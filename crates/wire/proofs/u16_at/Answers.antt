-- Two bytes side by side. Assumes nothing.
use native.Mathlib.Omega.{arith}
use Prim.Native.Nat.{◌+◌}
use Rattle.laws.specs.FieldLaws.{field_one, join}
use Rattle.wire.proofs.u16_at.Goals as goal

pub returns : goal.returns
returns c =
    let a = c.args in
    let s = a.s.now in
    omega (arith, join s a.at 1 1, field_one s a.at, field_one s (a.at + 1))
