-- The new reference is the original, or live, or neither: each is its verdict. Assumes nothing.
use mathlib.Core.Path.{refl, sym, ap, ◌∙◌}
use Rattle.std.proofs.Common.{eqb-true}
use Rattle.std.proofs.lemmas.Bool.{eqb-false}
use Rattle.slots.specs.Stored.{is_at, is_live}
use Rattle.replace.proofs.Laws.{itself, duplicate, replaces, started_whole}
use Rattle.replace.proofs.replace_in.Goals as goal

pub returns-then-eq-clause-replaces : goal.returns-then-eq-clause-replaces
returns-then-eq-clause-replaces c =
    let a = c.args in
    itself _ _ _ a.original.0 a.new.0 a.shares a.price.0 (is_live a.book.now.numbers.now a.book.now.k a.new.0) a.o (eqb-true _ _ (sym c.eq.ensures ∙ c.if-eq.true)) refl

pub returns-in-Some-clause-replaces : goal.returns-in-Some-clause-replaces
returns-in-Some-clause-replaces c =
    let a = c.args in
    let live = sym (rw (c.look.ensures.0, c.look.ensures.1) at c.find.ensures) ∙ c.in-Some.is in
    duplicate _ _ _ a.original.0 a.new.0 a.shares a.price.0 _ a.o (λ e. eqb-false _ _ (sym c.eq.ensures ∙ c.if-eq.false) e) (ap is_at live) refl

pub renew_in-requires : goal.renew_in-requires
renew_in-requires c =
    (c.requires.0, c.requires.1, started_whole c.args.o _ c.args.new.0 c.args.shares c.args.price.0 c.started-next.ensures)

pub returns-clause-replaces : goal.returns-clause-replaces
returns-clause-replaces c =
    let a = c.args in
    let free = sym (rw (c.look.ensures.0, c.look.ensures.1) at c.find.ensures) ∙ c.in_default.is in
    replaces _ _ _ a.original.0 a.new.0 a.shares a.price.0 _ a.o _ (λ e. eqb-false _ _ (sym c.eq.ensures ∙ c.if-eq.false) e) (ap is_at free) c.started-next.ensures
    c.renew_in.ensures.renews
