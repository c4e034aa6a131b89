-- THE LAW of a step, proved (`moved`): what a verdict takes out of a total and what it puts in. Assumes nothing.
use Rattle.std.specs.Prelude.{List}
use Prim.Native.Nat.{ℕ}
use Rattle.book.specs.Shape.{Sized}
use Rattle.slots.specs.Stored.{stored}
use Rattle.steps.specs.Asked.{Asked}
use Rattle.steps.specs.Steps.{verdict_on, slot_sought}
use Rattle.moves.specs.Lawful.{Lawful}
use Rattle.moves.specs.Moves.{Moved, Numbers}
use Rattle.moves.specs.Judged.{facts}
use Rattle.moves.specs.Moved.{moves}

-- and so does what is asked
pub moved : (d b : List ℕ) (k : ℕ) (a : Asked) → Sized b k → Numbers b → Lawful a
    → Moved b (stored b k (slot_sought b k a) (verdict_on d b k a)) k (verdict_on d b k a)
moved d b k a z n y = moves d b k a z (verdict_on d b k a) (facts d b k a z n y)
