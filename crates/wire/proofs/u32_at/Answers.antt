-- Four bytes side by side. Assumes nothing.
use native.Mathlib.Omega.{arith}
use Prim.Native.Nat.{◌+◌}
use Rattle.laws.specs.FieldLaws.{field_one, join}
use Rattle.wire.proofs.u32_at.Goals as goal

pub returns : goal.returns
returns c =
    let a = c.args in
    let s = a.s.now in
    let at = a.at in
    omega (arith, join s at 3 1, join s at 2 1, join s at 1 1, field_one s at, field_one s (at + 1), field_one s (at + 2), field_one s (at + 3))
