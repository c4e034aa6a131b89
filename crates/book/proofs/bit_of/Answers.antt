-- `book::bit_of` meets its contract: the shift is a division by 2 ^ i. Assumes nothing.
use borrow.Author.Rules.{rules}
use Rattle.laws.specs.Definitions.{bit}
use Rattle.book.proofs.bit_of.Goals as goal

pub returns : goal.returns
unfolding bit
returns c = search rules
