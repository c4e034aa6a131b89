-- The answer that was given is the one whose numbers are written. Assumes nothing.
use mathlib.Core.Path.{ap, ◌∙◌}
use Rattle.replies.specs.Replies.{quote_number, level_row}
use Rattle.ladlemoss.proofs.ladlemoss_level.Goals as goal

pub returns : goal.returns
returns c =
    let e = c.level.ensures in
    (c.level-2.ensures.0 ∙ ap quote_number e, c.level-2.ensures.1 ∙ ap level_row e)
