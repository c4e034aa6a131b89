-- Each branch is what its tests decide. Assumes nothing.
use borrow.Author.Tests.{le-leb, lt-leb, lt-ltb, le-ltb}
use native.Mathlib.Omega.{arith}
use lib.ListN.{length}
use Rattle.directory.specs.Directory.{entry_at}
use Rattle.directory.proofs.entry_at.Goals as goal

pub returns-then-l-eq0 : goal.returns-then-l-eq0
unfolding entry_at
returns-then-l-eq0 c = rw (lt-leb 1 c.args.locate.0 (omega arith))

pub returns-then-l-directory : goal.returns-then-l-directory
unfolding entry_at
returns-then-l-directory c =
    let a = c.args in
    rw (le-leb 1 a.locate.0 (omega arith), lt-ltb a.locate.0 (length a.directory.now) (omega arith))

pub returns-else-l-directory : goal.returns-else-l-directory
unfolding entry_at
returns-else-l-directory c =
    let a = c.args in
    rw (le-leb 1 a.locate.0 (omega arith), le-ltb a.locate.0 (length a.directory.now) (omega arith))
