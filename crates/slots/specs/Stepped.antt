-- What a step in the book ensures: its answer is the verdict's, and the book afterwards is what the verdict stores. Assumes nothing.
use Rattle.std.specs.Prelude.{ℕ, ◌≡◌, List, Result, Err}
use Rattle.std.proofs.Common.{sym, ap, ◌∙◌}
use Rattle.decide.specs.Decide.{Verdict, refuse, step_of}
use Rattle.slots.specs.Stored.{stored}
use Rattle.decide.specs.declared.Step.{Step}
use Rattle.refusals.specs.declared.Refusal.{Refusal}

-- the book b of k map numbers became b', and r was answered, for the verdict v about the order in slot s
pub record Stepped (b : List ℕ) (k s : ℕ) (v : Verdict) (r : Result Step Refusal) (b' : List ℕ) : Type 0 where
  pub answered : r ≡ step_of v
  pub after : b' ≡ stored b k s v

-- a refusal leaves the book as it is
pub refuses : {b : List ℕ} {k s : ℕ} {e : Refusal} {v : Verdict} {r : Result Step Refusal} → v ≡ refuse e → r ≡ Err e → Stepped b k s v r b
refuses {b} {k} {s} e f = record { answered = f ∙ ap step_of (sym e); after = ap (stored b k s) (sym e) }

-- any other verdict, with its answer and its book
pub settles : {b b' : List ℕ} {k s : ℕ} {v w : Verdict} {r : Result Step Refusal} → v ≡ w → r ≡ step_of w → b' ≡ stored b k s w → Stepped b k s v r b'
settles {b} {k = k} {s} e f g = record { answered = f ∙ ap step_of (sym e); after = g ∙ ap (stored b k s) (sym e) }
