-- The goals that the check leaves. Assumes nothing.
use native.Mathlib.Omega.{arith}
use Rattle.book.specs.Eights.{eight_more}
use Rattle.book.specs.Words.{word_none}
use Rattle.search.proofs.find_dense.Goals as goal

pub loop-eighth-preserved : goal.loop-eighth-preserved
loop-eighth-preserved c t l =
    eight_more _ _ _ _ _ c.loop-eighth.invariant (c.none_of_eight.ensures c.if-not-none_of_eight.false) t (omega arith)

pub returns : goal.returns
returns c = word_none _ (λ i l. c.loop-eighth.invariant i (omega arith))
