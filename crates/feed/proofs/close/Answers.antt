-- Bytes that are left are one message that is refused, and there is room for its record. Assumes nothing.
use Rattle.std.proofs.Common.{arith}
use Rattle.feed.proofs.Laws.{cut_short}
use Rattle.feed.proofs.close.Goals as goal

pub returns : goal.returns
returns c =
    let p = c.tell-written.ensures in
    let n = c.from-refused.ensures in
    cut_short _ _ _ c.if-left-eq0.false (omega arith) _ _ _ (rw n at p.0) (rw n at p.1) (rw n at c.count.ensures)
