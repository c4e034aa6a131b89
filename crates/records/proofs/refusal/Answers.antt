-- The message's number and then its refusal are stored behind the head, and the kind is put there last. Assumes nothing.
use mathlib.Core.List.{append_assoc}
use mathlib.Core.Path.{◌≡◌}
use native.Mathlib.Omega.{arith}
use lib.Dec.{lit<, lit≤}
use lib.ListN.{length}
use Rattle.records.specs.Records.{refusal_record}
use Rattle.records.proofs.Laws.{start, part, headed}
use Rattle.records.proofs.refusal.Goals as goal

pub returns : goal.returns
unfolding refusal_record
returns c =
    let a = c.args in
    let l = a.out.now in
    let size : length l ≡ 10 = omega arith in
    let b1 = part 9 a.message (start 10 l size) (lit≤ tt) (lit≤ tt) c.big_endian.ensures in
    let whole = part 10 _ b1 (lit≤ tt) (lit≤ tt) c.big_endian-2.ensures in
    headed l size (lit< tt) whole (simp (c.from.ensures, append_assoc))
