-- The goals that the check leaves. Assumes nothing.
use native.Mathlib.Omega.{arith}
use Rattle.book.specs.Finds.{find_none}
use Rattle.book.specs.Words.{word_at, word_more}
use Rattle.search.proofs.find_in.Goals as goal

pub returns-then-i-lt64 : goal.returns-then-i-lt64
returns-then-i-lt64 c =
    word_at _ _ _ _ _ c.loop-j-test.true c.loop-j.invariant c.find_word-i.ensures
    c.if-i-lt64.true

pub loop-j-preserved : goal.loop-j-preserved
loop-j-preserved c = word_more _ _ _ _ _ c.loop-j.invariant c.find_word-i.ensures c.if-i-lt64.false

pub returns : goal.returns
returns c = find_none _ _ _ (λ i l. c.loop-j.invariant i (omega arith))
