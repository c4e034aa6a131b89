-- The level's four numbers are stored behind the head, each where the one before it ends, and the kind is put there last. Assumes nothing.
use mathlib.Core.List.{append_assoc}
use mathlib.Core.Path.{◌≡◌}
use native.Mathlib.Omega.{arith}
use lib.Dec.{lit<, lit≤}
use lib.ListN.{length}
use Rattle.records.specs.Records.{level_record}
use Rattle.records.proofs.Laws.{start, part, headed}
use Rattle.records.proofs.level.Goals as goal

pub returns : goal.returns
unfolding level_record
returns c =
    let a = c.args in
    let l = a.out.now in
    let size : length l ≡ 19 = omega arith in
    let b1 = part 3 _ (start 19 l size) (lit≤ tt) (lit≤ tt) c.big_endian.ensures in
    let b2 = part 7 _ b1 (lit≤ tt) (lit≤ tt) c.big_endian-2.ensures in
    let b3 = part 15 a.total b2 (lit≤ tt) (lit≤ tt) c.big_endian-3.ensures in
    let whole = part 19 a.orders b3 (lit≤ tt) (lit≤ tt) c.big_endian-4.ensures in
    headed l size (lit< tt) whole (simp (c.from.ensures, c.from-2.ensures, append_assoc))
