-- What a verdict says of what was asked and of the tables, one record for each kind, with all that the step's callers need.
-- Judged.antt proves it of `judged`. Assumes nothing.
use Rattle.std.specs.Prelude.{◌≡◌, ◌≢◌, ◌⊎◌, List, ℕ, ◌*◌, ◌≤◌, ◌<◌, length, Some, None}
use Rattle.kinds.specs.declared.Slot.{Slot}
use Rattle.book.specs.Book.{live, find, lowest_free, clear_slot}
use Rattle.directory.specs.Directory.{entry_at}
use Rattle.orders.specs.declared.Order.{Order}
use Rattle.orders.specs.Order.{remaining}
use Rattle.orders.specs.OrderLaws.{Fit}
use Rattle.decide.specs.Decide.{Verdict, refuse, enter, alter, leave, renew, enroll, pass, renewed}
use Rattle.slots.specs.Stored.{held_at}
use Rattle.take.specs.declared.Taking.{Taking}
use Rattle.take.specs.Taken.{taken_by}
use Rattle.steps.specs.Asked.{Asked, register, start, take, close, replace, nothing}
use Rattle.moves.specs.Lawful.{Starts, Symbolic}

-- o is the order found under the reference r
pub record Rests (b : List ℕ) (k r : ℕ) (o : Order) : Type 0 where
  pub slot : Slot
  pub found : find b k r ≡ Some slot
  pub inside : slot.0 < 64 * k
  pub alive : live b slot.0 ≡ 1
  pub holding : held_at b k slot.0 ≡ Some o
  pub reference : o.reference.0 ≡ r
  pub fits : r < 18446744073709551616
  pub fit : Fit o

-- A, F: a new reference, a free slot, and a locate with the symbol
pub record Entering (d b : List ℕ) (k : ℕ) (a : Asked) (o : Order) : Type 0 where
  pub symbol : ℕ
  pub asks : a ≡ start o symbol
  pub listed : entry_at d o.locate.0 ≡ Some symbol
  pub symbolic : Symbolic symbol
  pub unknown : find b k o.reference.0 ≡ None
  pub slot : Slot
  pub free : lowest_free b k ≡ Some slot
  pub starts : Starts o
  pub fit : Fit o

-- E, C, X: n shares of what remains
pub record Altering (b : List ℕ) (k : ℕ) (a : Asked) (o o' : Order) (n : ℕ) : Type 0 where
  pub how : Taking
  pub reference : ℕ
  pub locate : ℕ
  pub asks : a ≡ take how reference locate n
  pub rests : Rests b k reference o
  pub here : o.locate.0 ≡ locate
  pub some : 1 ≤ n
  pub within : n ≤ remaining o
  pub after : o' ≡ taken_by how o n

-- D
pub record Leaving (b : List ℕ) (k : ℕ) (a : Asked) (o : Order) : Type 0 where
  pub reference : ℕ
  pub locate : ℕ
  pub asks : a ≡ close reference locate
  pub rests : Rests b k reference o
  pub here : o.locate.0 ≡ locate

-- U: a new reference, and a slot that is free once the old order's is
pub record Renewing (b : List ℕ) (k : ℕ) (a : Asked) (o o' : Order) : Type 0 where
  pub original : ℕ
  pub new : ℕ
  pub locate : ℕ
  pub shares : ℕ
  pub price : ℕ
  pub asks : a ≡ replace original new locate shares price
  pub rests : Rests b k original o
  pub here : o.locate.0 ≡ locate
  pub other : new ≢ original
  pub unknown : find b k new ≡ None
  pub slot : Slot
  pub free : lowest_free (clear_slot b k rests.slot.0) k ≡ Some slot
  pub fits : new < 18446744073709551616
  pub after : o' ≡ renewed o new shares price
  pub fit : Fit o'

-- R, where no symbol stands
pub record Enrolling (d : List ℕ) (a : Asked) (l symbol : ℕ) : Type 0 where
  pub asks : a ≡ register l symbol
  pub vacant : entry_at d l ≡ Some 0
  pub from : 1 ≤ l
  pub inside : l < length d
  pub symbolic : Symbolic symbol

-- R, where the symbol stands already
pub record Standing (d : List ℕ) (a : Asked) : Type 0 where
  pub locate : ℕ
  pub symbol : ℕ
  pub asks : a ≡ register locate symbol
  pub listed : entry_at d locate ≡ Some symbol
  pub symbolic : Symbolic symbol

-- the facts of a verdict
abbrev pub Facts : List ℕ → List ℕ → ℕ → Asked → Verdict → Type 0
Facts d b k a (refuse n) = Unit {0}
Facts d b k a (enter o) = Entering d b k a o
Facts d b k a (alter o o' n) = Altering b k a o o' n
Facts d b k a (leave o) = Leaving b k a o
Facts d b k a (renew o o') = Renewing b k a o o'
Facts d b k a (enroll l symbol) = Enrolling d a l symbol
Facts d b k a pass = (a ≡ nothing) ⊎ Standing d a
