-- What the search and the slot answered fixes what is seen, and each way through is its answer. Assumes nothing.
use Rattle.std.specs.Prelude.{Ok}
use mathlib.Core.Path.{refl, sym, ap, ◌∙◌}
use native.Mathlib.Omega.{arith}
use Rattle.book.specs.Finds.{found_slot}
use Rattle.slots.specs.HeldLaws.{gone_fits}
use Rattle.accounts.proofs.Laws.{shapeless, missing, unsound, known}
use Rattle.accounts.proofs.order.Goals as goal

pub returns-in_default : goal.returns-in_default
returns-in_default c = shapeless c.args.book.now c.args.reference.0 0 _ (sym c.in_default.ensures.shapeless) refl refl

pub returns-in_default-find : goal.returns-in_default-find
returns-in_default-find c =
    let s = c.in-Some.ensures.shaped in
    missing c.args.book.now c.args.reference.0 _ _ s.1 (omega (arith, s.2))
    (sym (rw s.0 at c.find.ensures) ∙ c.in_default-find.is) refl

pub held_at-requires : goal.held_at-requires
held_at-requires c = (found_slot _ _ c.args.reference.0 c.in-Some-find.slot (sym c.find.ensures ∙ c.in-Some-find.is)).0

pub returns-in_default-held_at : goal.returns-in_default-held_at
returns-in_default-held_at c =
    let s = c.in-Some.ensures.shaped in
    unsound c.args.book.now c.args.reference.0 _ _ c.in-Some-find.slot s.1 (omega (arith, s.2))
    (sym (rw s.0 at c.find.ensures) ∙ c.in-Some-find.is) (sym (rw s.0 at c.held_at.ensures) ∙ c.in_default-held_at.is) refl

pub account_of-requires : goal.account_of-requires
account_of-requires c = gone_fits _ _ _ c.in-Some-held_at.o (sym c.held_at.ensures ∙ c.in-Some-held_at.is)

pub returns : goal.returns
returns c =
    let s = c.in-Some.ensures.shaped in
    known c.args.book.now c.args.reference.0 _ _ c.in-Some-find.slot c.in-Some-held_at.o s.1 (omega (arith, s.2))
    (sym (rw s.0 at c.find.ensures) ∙ c.in-Some-find.is) (sym (rw s.0 at c.held_at.ensures) ∙ c.in-Some-held_at.is) (ap Ok c.account_of.ensures)
