-- THE LEDGER: what messages and the answers given to them say of each order and of each level. It never looks at a table.
-- Assumes nothing.
use Rattle.std.specs.Prelude.{ℕ, ◌+◌, Bool, cond, ◌&&◌, List, [], ◌∷◌, ◌++◌, eqb, Result, Ok, Err}
use Rattle.kinds.specs.declared.Side.{Side}
use Rattle.decide.specs.declared.Figures.{Figures}
use Rattle.take.specs.declared.Taking.{Taking}
use Rattle.take.specs.declared.Taking.TheVariants.{Executed, Cancelled}
use Rattle.steps.specs.Asked.{Asked, register, start, take, close, replace, nothing, asked}
use Rattle.apply.specs.Runs.{Said}
use Rattle.levels.specs.Levels.{same_side}
use Rattle.apply.specs.declared.Outcome.TheVariants.{Accepted, Moved, Replaced}
use Rattle.apply.specs.declared.Outcome.{Outcome}
use Rattle.refusals.specs.declared.Refusal.{Refusal}

-- what happens to the shares of an order
pub data Event : Type 0 where
  added executed cancelled closed : Event

-- a line of the ledger: an order, what happened, and the figures of the answer
pub record Line : Type 0 where
  pub reference : ℕ
  pub event : Event
  pub figures : Figures

abbrev pub line : ℕ → Event → Figures → Line
line r e f = record { reference = r; event = e; figures = f }

abbrev pub taken_as : Taking → Event
taken_as Executed = executed
taken_as Cancelled = cancelled

-- the lines of a message that was answered with the figures of one order
abbrev one_line : Asked → Figures → List Line
one_line (register l symbol) f = []
one_line (start o symbol) f = line o.reference.0 added f ∷ []
one_line (take how r l n) f = line r (taken_as how) f ∷ []
one_line (close r l) f = line r closed f ∷ []
one_line (replace original new l n p) f = []
one_line nothing f = []

-- and of two: the original is closed, and the new one starts
abbrev two_lines : Asked → Figures → Figures → List Line
two_lines (register l symbol) f g = []
two_lines (start o symbol) f g = []
two_lines (take how r l n) f g = []
two_lines (close r l) f g = []
two_lines (replace original new l n p) f g = line original closed f ∷ line new added g ∷ []
two_lines nothing f g = []

abbrev pub lines_of : Result Outcome Refusal → List Line
lines_of (Err r) = []
lines_of (Ok (Accepted m)) = []
lines_of (Ok (Moved m f)) = one_line (asked m) f
lines_of (Ok (Replaced m f g)) = two_lines (asked m) f g

abbrev pub ledger : List Said → List Line
ledger [] = []
ledger (x ∷ xs) = lines_of x.outcome ++ ledger xs

-- ---- by order: the present or last life under a reference

pub record Life : Type 0 where
  pub added : ℕ
  pub executed : ℕ
  pub cancelled : ℕ
  pub closed : ℕ

abbrev pub no_life : Life
no_life = record { added = 0; executed = 0; cancelled = 0; closed = 0 }

-- shares that are added start a life anew
abbrev pub booked : Event → ℕ → Life → Life
booked added n a = record { added = n; executed = 0; cancelled = 0; closed = 0 }
booked executed n a = record { added = a.added; executed = a.executed + n; cancelled = a.cancelled; closed = a.closed }
booked cancelled n a = record { added = a.added; executed = a.executed; cancelled = a.cancelled + n; closed = a.closed }
booked closed n a = record { added = a.added; executed = a.executed; cancelled = a.cancelled; closed = a.closed + n }

abbrev pub turned : ℕ → Line → Life → Life
turned r x a = cond (eqb x.reference r) (booked x.event x.figures.shares a) a

abbrev pub life : ℕ → List Line → Life → Life
life r [] a = a
life r (x ∷ xs) a = life r xs (turned r x a)

-- ---- by level: what was put there, and what was taken away

abbrev pub of_level : ℕ → Side → ℕ → Figures → Bool
of_level locate side price f = eqb f.locate.0 locate && (same_side f.side side && eqb f.price.0 price)

abbrev pub brought_by : Event → ℕ → ℕ
brought_by added n = n
brought_by executed n = 0
brought_by cancelled n = 0
brought_by closed n = 0

abbrev pub taken_away : Event → ℕ → ℕ
taken_away added n = 0
taken_away executed n = n
taken_away cancelled n = n
taken_away closed n = n

abbrev pub put : ℕ → Side → ℕ → List Line → ℕ
put locate side price [] = 0
put locate side price (x ∷ xs) =
    cond (of_level locate side price x.figures) (brought_by x.event x.figures.shares) 0 + put locate side price xs

abbrev pub taken : ℕ → Side → ℕ → List Line → ℕ
taken locate side price [] = 0
taken locate side price (x ∷ xs) =
    cond (of_level locate side price x.figures) (taken_away x.event x.figures.shares) 0 + taken locate side price xs
