-- The goals that the check leaves. Assumes nothing.
use Rattle.std.proofs.Common.{sym, ◌∙◌}
use Rattle.levels.specs.VisitLaws.{visit_none, unsound_ends}
use Rattle.levels.proofs.scan.Goals as goal

pub loop-j-init : goal.loop-j-init
loop-j-init c = visit_none _ _ _

pub returns-in_err-best : goal.returns-in_err-best
returns-in_err-best c =
    rw c.from_residual.ensures (unsound_ends _ _ _ _ c.loop-j-test.true (sym c.scan_word.ensures ∙ c.in_err-best.was))
