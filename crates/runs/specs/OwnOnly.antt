-- The lines of an answer, by what was asked. Assumes nothing.
use Rattle.std.specs.Prelude.{◌≡◌, ℕ, Ok}
use mathlib.Core.List.{[], ◌∷◌}
use Rattle.messages.specs.declared.Message.{Message}
use Rattle.orders.specs.declared.Order.{Order}
use Rattle.decide.specs.declared.Figures.{Figures}
use Rattle.take.specs.declared.Taking.{Taking}
use Rattle.take.specs.declared.Taking.TheVariants.{Executed, Cancelled}
use Rattle.steps.specs.Asked.{start, take, close, replace, asked}
use Rattle.apply.specs.declared.Outcome.TheVariants.{Moved, Replaced}
use Rattle.runs.specs.Ledger.{line, taken_as, lines_of}
use Rattle.runs.specs.Ledger.Event.{added, closed}

-- ---- the lines of an answer, by what was asked

pub lines_start : (x : Message) (o : Order) (symbol : ℕ) (f : Figures) → asked x ≡ start o symbol
    → lines_of (Ok (Moved x f)) ≡ line o.reference.0 added f ∷ []
lines_start x o symbol f e = rw e

pub lines_take : (x : Message) (how : Taking) (r l n : ℕ) (f : Figures) → asked x ≡ take how r l n
    → lines_of (Ok (Moved x f)) ≡ line r (taken_as how) f ∷ []
lines_take x Executed r l n f e = rw e
lines_take x Cancelled r l n f e = rw e

pub lines_close : (x : Message) (r l : ℕ) (f : Figures) → asked x ≡ close r l → lines_of (Ok (Moved x f)) ≡ line r closed f ∷ []
lines_close x r l f e = rw e

pub lines_replace : (x : Message) (original new l n p : ℕ) (f g : Figures) → asked x ≡ replace original new l n p
    → lines_of (Ok (Replaced x f g)) ≡ line original closed f ∷ line new added g ∷ []
lines_replace x original new l n p f g e = rw e
