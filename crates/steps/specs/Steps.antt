-- THE DEFINITION of what a message does to tables of good shapes (01, 'What each message does'): the verdict on what it asks, from
-- what is found in the tables, and what then is answered and stored. k is the book's map numbers. Assumes nothing.
use Rattle.std.specs.Prelude.{ℕ, ◌≡◌, List, [], Option, Result, None}
use Rattle.directory.specs.Directory.{entry_at}
use Rattle.book.specs.Book.{find, lowest_free}
use Rattle.decide.specs.Decide.{Verdict, pass, registering, placing, taking, closing, replacing, step_of}
use Rattle.slots.specs.Stored.{seen_in, is_at, is_live, slot_of, stored}
use Rattle.slots.specs.Stepped.{Stepped}
use Rattle.enroll.specs.Enrolled.{enrolled, Enrolled}
use Rattle.take.specs.Taken.{taken_by}
use Rattle.steps.specs.Asked.{Asked, register, start, take, close, replace, nothing}
use Rattle.decide.specs.declared.Step.{Step}
use Rattle.kinds.specs.declared.Slot.{Slot}
use Rattle.refusals.specs.declared.Refusal.{Refusal}

-- the verdict, where f was found for the order that must be live: R and A, F consult the directory; E, C, X, D and U the orders alone
abbrev pub judged : List ℕ → List ℕ → ℕ → Option Slot → Asked → Verdict
judged d b k f (register locate symbol) = registering (entry_at d locate) locate symbol
judged d b k f (start o symbol) =
    placing (entry_at d o.locate.0) symbol (is_live b k o.reference.0) (is_at (lowest_free b k)) o
judged d b k f (take how reference locate n) = taking (taken_by how) locate n (seen_in b k f)
judged d b k f (close reference locate) = closing locate (seen_in b k f)
judged d b k f (replace original new locate shares price) =
    replacing locate original new shares price (is_live b k new) (seen_in b k f)
judged d b k f nothing = pass

-- what is found for the order that must be live: the book looks for itself
abbrev pub sought : List ℕ → ℕ → Asked → Option Slot
sought b k (register locate symbol) = None
sought b k (start o symbol) = None
sought b k (take how reference locate n) = find b k reference
sought b k (close reference locate) = find b k reference
sought b k (replace original new locate shares price) = find b k original
sought b k nothing = None

abbrev pub verdict_on : List ℕ → List ℕ → ℕ → Asked → Verdict
verdict_on d b k a = judged d b k (sought b k a) a

-- the slot concerned
abbrev pub slot_sought : List ℕ → ℕ → Asked → ℕ
slot_sought b k a = slot_of (sought b k a)

-- what A and F do to the book
abbrev pub Places : List ℕ → List ℕ → ℕ → Asked → Result Step Refusal → List ℕ → Type 0
Places d b k a r b' = Stepped b k (slot_sought b k a) (verdict_on d b k a) r b'

-- what E, C, X, D and U do to the book, whatever the directory
abbrev pub Turns : List ℕ → ℕ → Asked → Result Step Refusal → List ℕ → Type 0
Turns b k a r b' = Stepped b k (slot_sought b k a) (verdict_on [] b k a) r b'

-- what R does to the directory, whatever the book
abbrev pub Lists : List ℕ → Asked → Result Step Refusal → List ℕ → Type 0
Lists d a r d' = Enrolled d (verdict_on d [] 0 a) r d'

-- for what is asked, r is answered and the tables d and b become d' and b'
pub record Does (d b : List ℕ) (k : ℕ) (a : Asked) (r : Result Step Refusal) (d' b' : List ℕ) : Type 0 where
  pub answered : r ≡ step_of (verdict_on d b k a)
  pub directory : d' ≡ enrolled d (verdict_on d b k a)
  pub book : b' ≡ stored b k (slot_sought b k a) (verdict_on d b k a)
