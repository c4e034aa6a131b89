-- What was asked, turned into the first level from a tick on. Assumes nothing.
use Rattle.std.proofs.Common.{sym, ◌∙◌}
use Rattle.std.proofs.lemmas.Result.{err_from_is_err_and}
use Rattle.levels.specs.Answers.{first_refused, first_none, first_some}
use Rattle.levels.proofs.questions.first_from.Goals as goal

pub returns-in_err-best : goal.returns-in_err-best
returns-in_err-best c =
    let a = c.args in
    let p = err_from_is_err_and c.from_residual.result c.from_residual.ensures.1 in
    rw (p.1, p.2) (first_refused _ a.locate a.byte a.from _ c.of-side.ensures _ (sym c.ask.ensures ∙ c.in_err-best.was))

pub returns-then-ticks-ge4294967296 : goal.returns-then-ticks-ge4294967296
returns-then-ticks-ge4294967296 c =
    let a = c.args in
    first_none _ a.locate a.byte a.from _ c.of-side.ensures _ (sym c.ask.ensures ∙ c.in_ok-best.was)
    c.if-ticks-ge4294967296.true

pub returns : goal.returns
returns c =
    let a = c.args in
    first_some _ a.locate a.byte a.from _ c.of-side.ensures _ (sym c.ask.ensures ∙ c.in_ok-best.was)
    c.if-ticks-ge4294967296.false _ c.price_at.ensures
