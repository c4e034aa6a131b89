-- The next level is the first from one tick past the price on. Assumes nothing.
use Rattle.std.proofs.Common.{sym, ◌∙◌}
use Rattle.levels.specs.TickLaws.{next_from_lem}
use Rattle.levels.proofs.questions.next.Goals as goal

pub returns : goal.returns
returns c =
    c.first_from.ensures
    ∙ rw (c.ticks_to-past.ensures.0, c.of-own.ensures) (sym (next_from_lem _ _ _ _ c.ranges.price.fits))
