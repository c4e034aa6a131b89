-- The goals that the check leaves. Assumes nothing.
use Rattle.std.specs.Prelude.{Ok}
use mathlib.Core.Path.{sym, ap, ◌∙◌}
use Rattle.ladders.proofs.Laws.{search_done, search_refused, search_on, search_found}
use Rattle.ladders.proofs.next_from.Goals as goal

pub returns-in_default : goal.returns-in_default
returns-in_default c =
    let l = c.loop-rung in
    rw (← c.first_of-to.ensures) (search_refused _ l.rung _ _ (sym c.quote_at.ensures ∙ c.in_default.is) ∙ l.invariant)

pub returns-in-Some : goal.returns-in-Some
returns-in-Some c =
    let l = c.loop-rung in
    let e = sym c.quote_at.ensures ∙ c.in-Ok.is ∙ ap Ok c.in-Some.is in
    rw (← c.first_of-to.ensures)
    (search_found _ l.rung _ _ _ _ c.first_of-to.ensures c.loop-rung-test.true e c.rung_at.ensures ∙ l.invariant)

pub loop-rung-preserved : goal.loop-rung-preserved
loop-rung-preserved c =
    let l = c.loop-rung in
    search_on _ l.rung _ (sym c.quote_at.ensures ∙ c.in-Ok.is ∙ ap Ok c.in_default-quote.is) ∙ l.invariant

pub returns : goal.returns
returns c =
    let l = c.loop-rung in
    rw (← c.first_of-to.ensures) (search_done _ l.rung _ c.loop-rung-test.false ∙ l.invariant)
