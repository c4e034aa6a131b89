-- What a side is asked by its letter is the rung's question. Assumes nothing.
use mathlib.Core.Path.{refl, ap, ◌∙◌}
use Rattle.kinds.specs.Sides.{side_byte}
use Rattle.ladders.proofs.Laws.{asks}
use Rattle.ladders.proofs.quote_at.Goals as goal

pub returns : goal.returns
returns c =
    asks _ _ _ _ _ _ c.locate_at.ensures (c.byte-letter.ensures.0 ∙ ap side_byte c.side_at.ensures) refl
    c.first_from.ensures
