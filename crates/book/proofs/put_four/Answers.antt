-- The four stores are those of `four`, in their order. Assumes nothing.
use mathlib.Core.Path.{refl}
use native.Mathlib.Omega.{arith}
use lib.ListN.{length-set}
use Rattle.book.specs.Book.{four}
use Rattle.book.proofs.put_four.Goals as goal

pub bounds-book-a-2 : goal.bounds-book-a-2
bounds-book-a-2 c = simp length-set (omega arith)

pub bounds-book-a-3 : goal.bounds-book-a-3
bounds-book-a-3 c = simp length-set (omega arith)

pub returns : goal.returns
unfolding four
returns c = refl
