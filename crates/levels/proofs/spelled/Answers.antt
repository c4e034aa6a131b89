-- Each test that fails is one that `lettered` asks, and past them it is the attribution's. Assumes nothing.
use Rattle.std.proofs.Common.{sym, ◌∙◌}
use Rattle.laws.specs.Bools.{true_not_false}
use Rattle.levels.specs.Letters.{letters_fail, spelled_last}
use Rattle.levels.proofs.spelled.Goals as goal

pub returns-then-not-sided : goal.returns-then-not-sided
returns-then-not-sided c = letters_fail _ (λ l. true_not_false _ (c.good-sided.ensures ∙ l.side) (c.if-not-sided.true))

pub returns-then-n3-ne0 : goal.returns-then-n3-ne0
returns-then-n3-ne0 c = letters_fail _ (λ l. c.if-n3-ne0.true l.low)

pub returns : goal.returns
returns c = spelled_last _ _ (sym c.good-sided.ensures ∙ c.if-not-sided.false) c.if-n3-ne0.false c.text4.ensures.0
