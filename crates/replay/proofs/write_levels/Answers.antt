-- A buffer that has room for a record gets on. Assumes nothing.
use Rattle.std.proofs.Common.{◌≡◌, ℕ, suc, ◌-◌, ◌/◌, ◌<◌, ◌≤◌, List, length, ap, arith}
use Rattle.ladders.specs.Ladders.{FillLeaves, shown, fill_leaves}
use Rattle.ladders.specs.LadderLaws.{shown-lt}
use Rattle.replay.proofs.write_levels.Goals as goal

gets_on : (book out : List ℕ) (rung end to : ℕ) (x : FillLeaves) → 19 ≤ length out → rung < end → end ≡ to
    → x ≡ fill_leaves out (shown (length out / 19) book rung to) → end - x.filled.rung < end - rung
gets_on book out rung end to x room l same e =
    let n = length out / 19 - 1 in
    let turns : length out / 19 ≡ suc n = omega arith in
    let there = ap (λ (y : FillLeaves). y.filled.rung) e in
    let more = ap (λ (m : ℕ). (shown m book rung to).rung) turns in
    omega (arith, there, more, shown-lt n book rung to (omega arith))

pub loop-rung-smaller : goal.loop-rung-smaller
loop-rung-smaller g c =
    let l = c.loop-rung in
    gets_on _ _ l.rung _ _ _ (omega arith) c.loop-rung-test.true c.first_of-end.ensures c.fill-filled.ensures
