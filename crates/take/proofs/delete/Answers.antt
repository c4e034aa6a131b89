-- A refusal is the verdict's, and what comes of the order that is here is what comes of the message. Assumes nothing.
use Rattle.std.proofs.lemmas.Result.{err_from_is_err_and}
use mathlib.Core.Path.{sym, ◌∙◌}
use Rattle.slots.specs.ConcernedLaws.{turned-away, here, let_through, in_slot}
use Rattle.take.proofs.delete.Goals as goal

pub close-requires : goal.close-requires
close-requires c =
    let h = in_slot _ _ _ _ _ _ (here _ _ _ _ _ _ (sym c.in_ok-slot.was ∙ (rw (c.look.ensures.0, c.look.ensures.1) at c.concerned.ensures))) (c.args.book.now.sized, c.requires) in
    (h.1, h.2)

pub returns-in_err-slot-clause-closes : goal.returns-in_err-slot-clause-closes
returns-in_err-slot-clause-closes c =
    let p = err_from_is_err_and c.from_residual.result c.from_residual.ensures.1 in
    rw (p.1, p.2) (turned-away _ _ _ _ _ _ (sym c.in_err-slot.was ∙ (rw (c.look.ensures.0, c.look.ensures.1) at c.concerned.ensures)))

pub returns-clause-closes : goal.returns-clause-closes
returns-clause-closes c =
    let_through _ _ _ _ _ _ _ _ _ (here _ _ _ _ _ _ (sym c.in_ok-slot.was ∙ (rw (c.look.ensures.0, c.look.ensures.1) at c.concerned.ensures)))
    c.close.ensures.closes
