-- The two counts are stored behind the head, and the kind is put there last. Assumes nothing.
use mathlib.Core.List.{append_assoc}
use mathlib.Core.Path.{◌≡◌}
use native.Mathlib.Omega.{arith}
use lib.Dec.{lit<, lit≤}
use lib.ListN.{length}
use Rattle.records.specs.Records.{tally_record}
use Rattle.records.proofs.Laws.{start, part, headed}
use Rattle.records.proofs.tally.Goals as goal

pub returns : goal.returns
unfolding tally_record
returns c =
    let a = c.args in
    let l = a.out.now in
    let size : length l ≡ 17 = omega arith in
    let b1 = part 9 a.messages (start 17 l size) (lit≤ tt) (lit≤ tt) c.big_endian.ensures in
    let whole = part 17 a.refused b1 (lit≤ tt) (lit≤ tt) c.big_endian-2.ensures in
    headed l size (lit< tt) whole (simp append_assoc)
