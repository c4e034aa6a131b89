-- Each way is a case of `applied`: SHAPE, bytes that are refused, or a message that is judged. Assumes nothing.
use Rattle.std.proofs.lemmas.Result.{err_from_is_err_and}
use Rattle.std.specs.Prelude.{Ok, Err}
use mathlib.Core.Path.{◌≡◌, ap, refl, sym, ◌∙◌}
use borrow.Author.Rules.{rules}
use native.Mathlib.Omega.{arith}
use Rattle.book.specs.Shape.{words_sized}
use Rattle.fresh.specs.FreshLaws.{bad_directory, bad_book, good_both}
use Rattle.apply.specs.Apply.{concluded}
use Rattle.apply.proofs.Laws.{leaves, shapeless, illegible, done}
use Rattle.apply.proofs.apply.Goals as goal

pub returns-then-not-good : goal.returns-then-not-good
returns-then-not-good c =
    let a = c.args in
    shapeless a.directory.now a.book.now a.bytes.now _
    (bad_directory _ _ (sym c.good_length-good.ensures ∙ c.if-not-good.true)) refl

pub returns-then-k-eq0 : goal.returns-then-k-eq0
returns-then-k-eq0 c =
    let a = c.args in
    shapeless a.directory.now a.book.now a.bytes.now _
    (bad_book _ _ (sym c.words_of-k.ensures ∙ omega (arith, c.if-k-eq0.true))) refl

pub new-whole-requires : goal.new-whole-requires
new-whole-requires c =
    let a = c.args in
    words_sized a.book.now _ (sym c.words_of-k.ensures) (omega (arith, c.if-k-eq0.false))

pub returns-in_err-m : goal.returns-in_err-m
returns-in_err-m c =
    let a = c.args in
    let p = err_from_is_err_and c.from_residual.result c.from_residual.ensures.1 in
    rw (p.1, p.2)
    (illegible a.directory.now a.book.now a.bytes.now _
    (good_both _ _ (sym c.good_length-good.ensures ∙ c.if-not-good.false) (omega (arith, c.if-k-eq0.false, c.words_of-k.ensures)))
    (sym c.read.ensures ∙ c.in_err-m.was))

pub returns-in_err-step : goal.returns-in_err-step
returns-in_err-step c =
    let a = c.args in
    let p = err_from_is_err_and c.from_residual-in_err-step.result c.from_residual-in_err-step.ensures.1 in
    let back : _ ≡ c.step.new.book.numbers.now = search rules in
    let shapes = good_both _ _ (sym c.good_length-good.ensures ∙ c.if-not-good.false) (omega (arith, c.if-k-eq0.false, c.words_of-k.ensures)) in
    rw (p.1, p.2)
    (ap (leaves (Err c.in_err-step.field-0.0) c.step.new.directory) back
    ∙ done a.directory.now a.book.now a.bytes.now _ c.in_ok-m.m _ _ _ _ shapes
    (sym c.read.ensures ∙ c.in_ok-m.was)
    c.words_of-k.ensures
    (rw (c.new-whole.ensures.same.0, c.new-whole.ensures.same.1) at c.step.ensures.does)
    (sym (ap (concluded c.in_ok-m.m) c.in_err-step.was)))

pub returns : goal.returns
returns c =
    let a = c.args in
    let back : _ ≡ c.step.new.book.numbers.now = search rules in
    let shapes = good_both _ _ (sym c.good_length-good.ensures ∙ c.if-not-good.false) (omega (arith, c.if-k-eq0.false, c.words_of-k.ensures)) in
    ap (leaves (Ok c.conclude.result) c.step.new.directory) back
    ∙ done a.directory.now a.book.now a.bytes.now _ c.in_ok-m.m _ _ _ _ shapes
    (sym c.read.ensures ∙ c.in_ok-m.was)
    c.words_of-k.ensures
    (rw (c.new-whole.ensures.same.0, c.new-whole.ensures.same.1) at c.step.ensures.does)
    (c.conclude.ensures ∙ sym (ap (concluded c.in_ok-m.m) c.in_ok-step.was))
