-- Each way is what the tests of the book, of the side and of the slots decide, in this order. Assumes nothing.
use Rattle.std.proofs.Common.{sym, ◌∙◌, arith}
use Rattle.levels.specs.Asks.{no_book, no_side, passed}
use Rattle.levels.proofs.questions.ask.Goals as goal

pub returns-in_default : goal.returns-in_default
returns-in_default c = no_book _ _ _ c.in_default.ensures.shapeless

pub returns-then-not-good : goal.returns-then-not-good
returns-then-not-good c =
    let s = c.in-Some.ensures.shaped in
    no_side _ _ _ _ s.1 (λ e. omega (arith, e, s.2)) (sym c.good-good.ensures ∙ c.if-not-good.true)

pub returns : goal.returns
returns c =
    let s = c.in-Some.ensures.shaped in
    c.ok_or.ensures.value
    ∙ passed _ _ _ _ s.1 (λ e. omega (arith, e, s.2)) (sym c.good-good.ensures ∙ c.if-not-good.false) _ (sym (rw s.0 at c.scan.ensures))
