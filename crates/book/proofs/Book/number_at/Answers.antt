-- `book::number_at` meets its contract: it reads the place that `number_at` names. Assumes nothing.
use Rattle.book.specs.Book.{number_at}
use borrow.Author.Rules.{rules}
use Rattle.book.proofs.Book.number_at.Goals as goal

pub returns : goal.returns
unfolding number_at
returns c = search rules
