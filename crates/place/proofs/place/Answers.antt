-- Each way through the checks is the verdict that its findings lead to. Assumes nothing.
use Rattle.std.specs.Prelude.{Ok}
use mathlib.Core.Path.{refl, sym, ap, ◌∙◌}
use Rattle.book.specs.Finds.{free_slot}
use Rattle.decide.specs.declared.Step.TheVariants.{One}
use Rattle.decide.specs.Figured.{figures_of}
use Rattle.place.proofs.Laws.{no_entry, no_symbol, other, live, no_room, enters_at}
use Rattle.place.proofs.place.Goals as goal

pub returns-in_default-clause-places : goal.returns-in_default-clause-places
returns-in_default-clause-places c =
    let a = c.args in
    let d = a.directory.now in
    let b = a.book.now.numbers.now in
    no_entry d b a.book.now.k a.symbol a.o _ (sym c.entry_at.ensures ∙ c.in_default.is) refl

pub returns-then-registered-eq0-clause-places : goal.returns-then-registered-eq0-clause-places
returns-then-registered-eq0-clause-places c =
    let a = c.args in
    let d = a.directory.now in
    let b = a.book.now.numbers.now in
    let p = sym c.entry_at.ensures ∙ c.in-Some.is in
    no_symbol d b a.book.now.k a.symbol a.o _ c.in-Some.registered p c.if-registered-eq0.true refl

pub returns-then-registered-symbol-clause-places : goal.returns-then-registered-symbol-clause-places
returns-then-registered-symbol-clause-places c =
    let a = c.args in
    let d = a.directory.now in
    let b = a.book.now.numbers.now in
    let p = sym c.entry_at.ensures ∙ c.in-Some.is in
    other d b a.book.now.k a.symbol a.o _ c.in-Some.registered p c.if-registered-eq0.false c.if-registered-symbol.true refl

pub returns-in-Some-find-clause-places : goal.returns-in-Some-find-clause-places
returns-in-Some-find-clause-places c =
    let a = c.args in
    let d = a.directory.now in
    let b = a.book.now.numbers.now in
    let p = sym c.entry_at.ensures ∙ c.in-Some.is in
    live d b a.book.now.k a.symbol a.o _ c.in-Some.registered p c.if-registered-eq0.false c.if-registered-symbol.false c.in-Some-find.field-0
    (sym (rw (c.look-seen.ensures.0, c.look-seen.ensures.1) at c.find.ensures) ∙ c.in-Some-find.is) refl

pub returns-in_default-lowest_free-clause-places : goal.returns-in_default-lowest_free-clause-places
returns-in_default-lowest_free-clause-places c =
    let a = c.args in
    let d = a.directory.now in
    let b = a.book.now.numbers.now in
    let p = sym c.entry_at.ensures ∙ c.in-Some.is in
    no_room d b a.book.now.k a.symbol a.o _ c.in-Some.registered p c.if-registered-eq0.false c.if-registered-symbol.false
    (sym (rw (c.look-seen.ensures.0, c.look-seen.ensures.1) at c.find.ensures) ∙ c.in_default-find.is) (sym (rw (c.look-seen.ensures.0, c.look-seen.ensures.1) at c.lowest_free.ensures) ∙ c.in_default-lowest_free.is) refl

pub put_order-requires : goal.put_order-requires
put_order-requires c =
    let a = c.args in
    (free_slot a.book.now.numbers.now a.book.now.k c.in-Some-lowest_free.slot (sym (rw (c.look-seen.ensures.0, c.look-seen.ensures.1) at c.lowest_free.ensures) ∙ c.in-Some-lowest_free.is)).0

pub returns-clause-places : goal.returns-clause-places
returns-clause-places c =
    let a = c.args in
    let d = a.directory.now in
    let b = a.book.now.numbers.now in
    let p = sym c.entry_at.ensures ∙ c.in-Some.is in
    enters_at d b a.book.now.k a.symbol a.o _ c.in-Some.registered p c.if-registered-eq0.false c.if-registered-symbol.false c.in-Some-lowest_free.slot _
    (sym (rw (c.look-seen.ensures.0, c.look-seen.ensures.1) at c.find.ensures) ∙ c.in_default-find.is) (sym (rw (c.look-seen.ensures.0, c.look-seen.ensures.1) at c.lowest_free.ensures) ∙ c.in-Some-lowest_free.is)
    (ap (λ f. Ok (One f)) (c.figured.ensures ∙ ap (figures_of a.o a.o.added) c.remaining.ensures)) c.put_order.ensures.put
