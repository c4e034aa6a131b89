-- The answer that was given is the one whose numbers are written. Assumes nothing.
use mathlib.Core.Path.{ap, ◌∙◌}
use Rattle.replies.specs.Replies.{count_number, count_row}
use Rattle.ladlemoss.proofs.ladlemoss_live.Goals as goal

pub returns : goal.returns
returns c =
    let e = c.live_count.ensures in
    (c.count.ensures.0 ∙ ap count_number e, c.count.ensures.1 ∙ ap count_row e)
