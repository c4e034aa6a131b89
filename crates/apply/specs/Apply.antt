-- THE DEFINITION of apply (01): the answer to any bytes, over any two tables, and what both tables then hold. Assumes nothing.
use Rattle.refusals.specs.declared.Refusal.TheVariants.{Shape}
use Rattle.std.specs.Prelude.{ℕ, cond, List, length, Result, Ok, Err}
use Rattle.refusals.specs.Refusals.{refusal_number}
use Rattle.messages.specs.declared.Message.{Message}
use Rattle.refusals.specs.declared.Refusal.{Refusal}
use Rattle.book.specs.Book.{words_of}
use Rattle.slots.specs.Stored.{stored}
use Rattle.enroll.specs.Enrolled.{enrolled}
use Rattle.fresh.specs.Fresh.{good_shapes}
use Rattle.reader.specs.Read.{answer}
use Rattle.decide.specs.declared.Step.TheVariants as step
use Rattle.decide.specs.Decide.{Verdict, step_of}
use Rattle.steps.specs.Asked.{asked}
use Rattle.steps.specs.Steps.{verdict_on, slot_sought}
use Rattle.apply.specs.declared.Outcome.TheVariants.{Accepted, Moved, Replaced}
use Rattle.apply.specs.declared.Outcome.{Outcome}
use Rattle.decide.specs.declared.Step.{Step}

-- 01's number of an outcome
abbrev pub number_of : Result Outcome Refusal → ℕ
number_of (Err r) = refusal_number r
number_of (Ok o) = 0

-- what a call leaves: its answer and both tables
pub record After : Type 0 where
  pub outcome : Result Outcome Refusal
  pub directory : List ℕ
  pub book : List ℕ

-- a refusal changes nothing
abbrev pub unchanged : List ℕ → List ℕ → Refusal → After
unchanged d b r = record { outcome = Err r; directory = d; book = b }

-- the answer to a message that came to a step
abbrev pub concluded : Message → Result Step Refusal → Result Outcome Refusal
concluded m (Err r) = Err r
concluded m (Ok step.Plain) = Ok (Accepted m)
concluded m (Ok (step.One f)) = Ok (Moved m f)
concluded m (Ok (step.Two f g)) = Ok (Replaced m f g)

-- a message with a verdict about the order in slot s
abbrev pub settled : List ℕ → List ℕ → ℕ → Message → ℕ → Verdict → After
settled d b k m s v = record { outcome = concluded m (step_of v); directory = enrolled d v; book = stored b k s v }

-- bytes that were read, over tables of good shapes
abbrev pub apply_read : List ℕ → List ℕ → ℕ → Result Message Refusal → After
apply_read d b k (Err r) = unchanged d b r
apply_read d b k (Ok m) = settled d b k m (slot_sought b k (asked m)) (verdict_on d b k (asked m))

-- SHAPE first; then the bytes are read; then what the message asks is verdict_on
unfoldable pub applied : List ℕ → List ℕ → List ℕ → After
applied d b s = cond (good_shapes d b) (apply_read d b (words_of (length b)) (answer s)) (unchanged d b Shape)
