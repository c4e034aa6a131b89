-- One number is stored. Assumes nothing.
use borrow.Author.Rules.{rules}
use Rattle.directory.specs.Directory.{registered}
use Rattle.directory.proofs.register.Goals as goal

pub returns : goal.returns
unfolding registered
returns c = search rules
