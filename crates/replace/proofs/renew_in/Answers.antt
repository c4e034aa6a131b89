-- The cleared slot is free, so the lowest free slot exists and takes the order that starts. Assumes nothing.
use mathlib.Core.Path.{sym, ◌∙◌}
use Rattle.orders.specs.OrderLaws.{closed_fits}
use Rattle.slots.specs.HeldLaws.{gone_fits}
use Rattle.replace.proofs.Laws.{has_room, in_room, renews}
use Rattle.replace.proofs.renew_in.Goals as goal

pub remaining-shares-requires : goal.remaining-shares-requires
remaining-shares-requires c = gone_fits _ _ _ _ c.requires.1

pub closed-end-requires : goal.closed-end-requires
closed-end-requires c = gone_fits _ _ _ _ c.requires.1

pub remaining-requires : goal.remaining-requires
remaining-requires c = closed_fits _ _ (gone_fits _ _ _ _ c.requires.1) c.closed-end.ensures

pub returns-in_default-clause-renews : goal.returns-in_default-clause-renews
returns-in_default-clause-renews c =
    let none = sym (rw (c.look.ensures.0, c.look.ensures.1, c.clear.ensures.same.1) at c.lowest_free.ensures) ∙ c.in_default.is in
    absurd (has_room _ _ _ _ c.clear.ensures.cleared c.args.book.now.sized c.requires.0 none)

pub put_order-requires : goal.put_order-requires
put_order-requires c =
    let free = sym (rw (c.look.ensures.0, c.look.ensures.1, c.clear.ensures.same.1) at c.lowest_free.ensures) ∙ c.in-Some.is in
    rw c.clear.ensures.same.1 (in_room _ _ _ _ c.clear.ensures.cleared c.args.book.now.sized _ free).1

pub returns-clause-renews : goal.returns-clause-renews
returns-clause-renews c =
    let free = sym (rw (c.look.ensures.0, c.look.ensures.1, c.clear.ensures.same.1) at c.lowest_free.ensures) ∙ c.in-Some.is in
    renews _ _ _ _ c.clear.ensures.cleared c.args.book.now.sized _ _ _ _ _ _ _ _ _ free c.remaining-shares.ensures
    c.closed-end.ensures c.remaining.ensures c.figured-old.ensures
    c.remaining-2.ensures c.figured-new.ensures (rw c.clear.ensures.same.1 at c.put_order.ensures.put)
