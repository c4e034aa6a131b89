-- The answer that was given is the one whose numbers are written. Assumes nothing.
use mathlib.Core.Path.{ap, ◌∙◌}
use Rattle.replies.specs.Replies.{account_number, account_row}
use Rattle.ladlemoss.proofs.ladlemoss_order.Goals as goal

pub returns : goal.returns
returns c =
    let e = c.order.ensures in
    (c.account.ensures.0 ∙ ap account_number e, c.account.ensures.1 ∙ ap account_row e)
