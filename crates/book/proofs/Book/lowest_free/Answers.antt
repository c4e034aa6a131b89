-- The goals that the check leaves. Assumes nothing.
use native.Mathlib.Omega.{arith}
use Rattle.book.specs.Finds.{free_none}
use Rattle.book.specs.Words.{free_word_at, free_word_more}
use Rattle.book.proofs.Book.lowest_free.Goals as goal

pub returns-then-i-lt64 : goal.returns-then-i-lt64
returns-then-i-lt64 c =
    free_word_at _ _ _ _ c.loop-j-test.true c.loop-j.invariant c.free_in-i.ensures
    c.if-i-lt64.true

pub loop-j-preserved : goal.loop-j-preserved
loop-j-preserved c = free_word_more _ _ _ c.loop-j.invariant c.free_in-i.ensures c.if-i-lt64.false

pub returns : goal.returns
returns c = free_none _ _ (λ i l. c.loop-j.invariant i (omega arith))
