-- The answer that was read is the one whose numbers are written. Assumes nothing.
use mathlib.Core.Path.{ap, ◌∙◌}
use Rattle.numbers.specs.Shown.{answer_number, answer_row}
use Rattle.ladlemoss.proofs.ladlemoss_read.Goals as goal

pub returns : goal.returns
returns c =
    let e = c.read.ensures in
    (c.write.ensures.0 ∙ ap answer_number e, c.write.ensures.1 ∙ ap answer_row e)
