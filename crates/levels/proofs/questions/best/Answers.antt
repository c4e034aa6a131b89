-- The best level is the first from no tick on. Assumes nothing.
use Rattle.std.proofs.Common.{sym, ◌∙◌}
use Rattle.levels.specs.TickLaws.{best_from}
use Rattle.levels.proofs.questions.best.Goals as goal

pub returns : goal.returns
returns c = c.first_from.ensures ∙ sym (best_from _ _ _)
