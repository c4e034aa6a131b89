-- `levels::scan` meets its contract. The loop's invariant: `best` is what was seen in the slots of the map numbers below j.
-- Assumes nothing.
use Rattle.std.specs.Prelude.{Some}
use Rattle.std.proofs.Common.{◌≡◌, ◌*◌}
use Rattle.levels.specs.Visits.{visited}
use Rattle.levels.proofs.scan.Given as goal

abbrev pub invariant-loop-j : goal.invariant-loop-j
invariant-loop-j l = visited l.w l.book.numbers.now l.book.k (64 * l.j) ≡ Some l.best
