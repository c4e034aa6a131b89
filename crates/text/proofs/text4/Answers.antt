-- `text::text4` meets its contract. The number that it hands to `text8` is its own with four spaces behind it, and spaces behind
-- a field change nothing. Assumes nothing.
use mathlib.Core.Path.{ap, ◌∙◌}
use native.Mathlib.Omega.{arith}
use Rattle.text.specs.TextLaws.{padded-text, fault-padded, text_fault}
use Rattle.text.proofs.text4.Goals as goal

pub returns : goal.returns
unfolding padded-text
returns c =
    (c.text8.ensures.0 ∙ ap (text_fault 8) (omega arith) ∙ fault-padded 4 4 c.args.v, c.text8.ensures.1)
