-- The map number and then the four numbers are stored. Assumes nothing.
use Rattle.book.specs.Book.{clear_slot}
use Rattle.book.proofs.BookMut.clear.Goals as goal

pub returns-clause-cleared : goal.returns-clause-cleared
unfolding clear_slot
returns-clause-cleared c = rw (c.put_four.ensures, c.without_bit.ensures)
