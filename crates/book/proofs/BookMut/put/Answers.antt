-- The map number and then the four numbers are stored. Assumes nothing.
use Rattle.book.specs.Book.{put_slot}
use Rattle.book.proofs.BookMut.put.Goals as goal

pub returns-clause-stored : goal.returns-clause-stored
unfolding put_slot
returns-clause-stored c = rw (c.put_four.ensures, c.with_bit.ensures)
