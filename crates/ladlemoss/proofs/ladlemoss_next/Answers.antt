-- The answer that was given is the one whose numbers are written. Assumes nothing.
use mathlib.Core.Path.{ap, ◌∙◌}
use Rattle.replies.specs.Replies.{quote_number, quote_row}
use Rattle.ladlemoss.proofs.ladlemoss_next.Goals as goal

pub returns : goal.returns
returns c =
    let e = c.next.ensures in
    (c.quote.ensures.0 ∙ ap quote_number e, c.quote.ensures.1 ∙ ap quote_row e)
