-- All that remains is closed, so nothing then remains. Assumes nothing.
use Rattle.orders.specs.OrderLaws.{closed_fits}
use Rattle.slots.specs.HeldLaws.{gone_fits}
use Rattle.take.proofs.Laws.{closed_all}
use Rattle.take.proofs.close.Goals as goal

pub remaining-shares-requires : goal.remaining-shares-requires
remaining-shares-requires c = gone_fits _ _ _ _ c.requires.1

pub closed-end-requires : goal.closed-end-requires
closed-end-requires c = gone_fits _ _ _ _ c.requires.1

pub remaining-requires : goal.remaining-requires
remaining-requires c =
    closed_fits _ _ (gone_fits _ _ _ _ c.requires.1) c.closed-end.ensures

pub returns-clause-closes : goal.returns-clause-closes
returns-clause-closes c =
    closed_all _ _ _ _ _ _ _ _ c.remaining-shares.ensures c.closed-end.ensures c.remaining.ensures c.figured.ensures
    c.clear.ensures.cleared
