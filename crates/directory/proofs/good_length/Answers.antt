-- Each branch is what its test decides. Assumes nothing.
use borrow.Author.Tests.{le-leb, lt-leb}
use native.Mathlib.Omega.{arith}
use Rattle.directory.specs.Directory.{good_length, most_numbers}
use Rattle.directory.proofs.good_length.Goals as goal

pub returns-then-n-ge2 : goal.returns-then-n-ge2
unfolding good_length most_numbers
returns-then-n-ge2 c = rw (le-leb 2 c.args.n (omega (arith, c.if-n-ge2.true)))

pub returns-else-n-ge2 : goal.returns-else-n-ge2
unfolding good_length most_numbers
returns-else-n-ge2 c = rw (lt-leb 2 c.args.n (omega (arith, c.if-n-ge2.false)))
