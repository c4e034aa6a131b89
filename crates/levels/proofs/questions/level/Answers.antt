-- What was asked of one tick, turned into the level of its price. Assumes nothing.
use Rattle.std.proofs.Common.{sym, ◌∙◌}
use Rattle.std.proofs.lemmas.Result.{err_from_is_err_and}
use Rattle.levels.specs.Answers.{level_refused, level_answered}
use Rattle.levels.proofs.questions.level.Goals as goal

pub returns-in_err-there : goal.returns-in_err-there
returns-in_err-there c =
    let a = c.args in
    let ticks = c.ticks_to-from.ensures in
    let p = err_from_is_err_and c.from_residual.result c.from_residual.ensures.1 in
    rw (p.1, p.2) (level_refused _ a.locate a.side a.price _ _ c.of-own.ensures ticks.0 ticks.1 _ (sym c.ask.ensures ∙ c.in_err-there.was))

pub returns : goal.returns
returns c =
    let a = c.args in
    let ticks = c.ticks_to-from.ensures in
    level_answered _ a.locate a.side a.price _ _ c.of-own.ensures ticks.0 ticks.1 c.ranges.price.fits _
    (sym c.ask.ensures ∙ c.in_ok-there.was)
