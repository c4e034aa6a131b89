-- A length whose map numbers are not 0 is a book's. Assumes nothing.
use native.Mathlib.Omega.{arith}
use mathlib.Core.Path.{refl}
use Rattle.book.specs.Shape.{words_sized}
use Rattle.book.proofs.Book.of.Goals as goal

pub invariant_of-result : goal.invariant_of-result
invariant_of-result c = record { sized = rw c.words_of-k.ensures (words_sized _ _ refl (omega (arith, c.if-k-eq0.false, c.words_of-k.ensures))) }
