-- The goals that the check leaves. Assumes nothing.
use mathlib.Core.Path.{sym, ◌∙◌}
use mathlib.Core.Logic.{⊎_elim}
use native.Mathlib.Omega.{arith}
use borrow.Author.Count.{below_more}
use Rattle.laws.specs.Bit.{bit_cases}
use Rattle.book.specs.Words.{in_dead, in_other, in_yes, first_at, word_none}
use Rattle.search.proofs.find_from.Goals as goal
use Rattle.search.proofs.find_from.Goals.{then-numbers-k+else-bit_of-eq1, else-numbers-k}

pub returns-then-bit_of-eq1 : goal.returns-then-bit_of-eq1
returns-then-bit_of-eq1 c =
    let lt = c.loop-t-test.true in
    let one = sym c.bit_of.ensures ∙ c.if-bit_of-eq1.true in
    first_at _ _ lt c.loop-t.invariant (in_yes _ _ _ _ _ lt one c.if-numbers-k.true)

pub loop-t-preserved : goal.loop-t-preserved
loop-t-preserved c =
    below_more _ _ c.loop-t.invariant
    (elim c.if-numbers-k.branch [
      | then-numbers-k+else-bit_of-eq1 w ↦
          in_dead _ _ _ _ _ c.loop-t-test.true
          (⊎_elim (λ z. z) (λ o. absurd (w.if-bit_of-eq1.false (w.bit_of.ensures ∙ o))) (bit_cases _ _))
      | else-numbers-k w ↦ in_other _ _ _ _ _ w.if-numbers-k.false
    ])

pub returns : goal.returns
returns c = word_none _ (λ i l. c.loop-t.invariant i (omega arith))
