-- `book::free_in` meets its contract. The loop's invariant, `Halved`: rest is w without its lowest i bits, none of which is 0.
-- Assumes nothing.
use Rattle.book.specs.Words.{Halved}
use Rattle.book.proofs.free_in.Given as goal

abbrev pub invariant-loop-i : goal.invariant-loop-i
invariant-loop-i l = Halved l.w l.i l.rest
