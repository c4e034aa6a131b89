-- Where there are no such bytes nothing changes; else they are what stands in front. Assumes nothing.
use Rattle.std.proofs.Common.{◌∙◌, arith}
use Rattle.carry.proofs.Laws.{keeps_crossed, keeps_beyond, keeps_there, moved_within}
use Rattle.carry.proofs.keep.Goals.{then-from-to-via-then-from-to, then-from-to-via-else-from-to+then-to-buffer}
use Rattle.carry.proofs.keep.Goals as goal

pub returns-then-from-to : goal.returns-then-from-to
returns-then-from-to c =
    elim c.then-from-to.branch [
      | then-from-to-via-then-from-to w ↦ keeps_crossed _ _ _ w.if-from-to.true
      | then-from-to-via-else-from-to+then-to-buffer w ↦
          let h = w.if-from-to.false in
          keeps_beyond _ _ _ (omega arith) w.if-to-buffer.true
    ]

pub returns : goal.returns
returns c = keeps_there _ _ _ _ (omega arith) (omega arith) (c.copy_within.ensures.after ∙ moved_within c.args.buffer.now c.args.from c.args.to)
