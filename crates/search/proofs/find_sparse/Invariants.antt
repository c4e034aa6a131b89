-- `search::find_sparse` meets its contract. The loop's invariant, `Scan`: m is the map number with the bits taken off that have
-- been looked at, none of which passed. The measure is m. Assumes nothing.
use lib.ListN.{get_or}
use Rattle.book.specs.Scan as scan
use Rattle.book.specs.Words.{in_word}
use Rattle.search.proofs.find_sparse.Given as goal

abbrev pub invariant-loop-m : goal.invariant-loop-m
invariant-loop-m l = scan.Scan (in_word l.book.numbers.now l.book.k l.want l.j) (get_or l.book.numbers.now l.j 0) l.m

abbrev pub decreases-loop-m : goal.decreases-loop-m
decreases-loop-m l = l.m
