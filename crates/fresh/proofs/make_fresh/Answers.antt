-- Each way is what the tests of the two shapes decide. Assumes nothing.
use mathlib.Core.Path.{refl, sym, ◌∙◌}
use native.Mathlib.Omega.{arith}
use Rattle.fresh.specs.FreshLaws.{bad_directory, bad_book, good_both, comes_refused, comes_fresh}
use Rattle.fresh.proofs.make_fresh.Goals as goal

pub returns-then-not-good : goal.returns-then-not-good
returns-then-not-good c =
    let a = c.args in
    comes_refused a.directory.now a.book.now (bad_directory _ _ (sym c.good_length-good.ensures ∙ c.if-not-good.true)) refl

pub returns-then-k-eq0 : goal.returns-then-k-eq0
returns-then-k-eq0 c =
    let a = c.args in
    comes_refused a.directory.now a.book.now (bad_book _ _ (sym c.words_of-k.ensures ∙ c.if-k-eq0.true)) refl

pub returns : goal.returns
returns c =
    let a = c.args in
    comes_fresh a.directory.now a.book.now (good_both _ _ (sym c.good_length-good.ensures ∙ c.if-not-good.false) (omega arith))
    (c.fill.ensures.after (λ y e. e)) (c.fill-2.ensures.after (λ y e. e))
