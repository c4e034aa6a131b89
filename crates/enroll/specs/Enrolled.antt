-- What a verdict stores in the directory, and what R's step ensures. Assumes nothing.
use Rattle.std.specs.Prelude.{◌≡◌, List, ℕ, Result}
use Rattle.std.proofs.Common.{sym, ap, ◌∙◌}
use Rattle.directory.specs.Directory.{registered}
use Rattle.decide.specs.Decide.{Verdict, refuse, enter, alter, leave, renew, enroll, pass, step_of}
use Rattle.decide.specs.declared.Step.{Step}
use Rattle.refusals.specs.declared.Refusal.{Refusal}

-- the directory after a verdict
abbrev pub enrolled : List ℕ → Verdict → List ℕ
enrolled d (refuse n) = d
enrolled d (enter o) = d
enrolled d (alter o o' n) = d
enrolled d (leave o) = d
enrolled d (renew o o') = d
enrolled d (enroll locate symbol) = registered d locate symbol
enrolled d pass = d

-- the directory d became d', and r was answered, for the verdict v
pub record Enrolled (d : List ℕ) (v : Verdict) (r : Result Step Refusal) (d' : List ℕ) : Type 0 where
  pub answered : r ≡ step_of v
  pub after : d' ≡ enrolled d v

-- the verdict w, with its answer and what then stands there
pub enlists : {d d' : List ℕ} {v w : Verdict} {r : Result Step Refusal} → v ≡ w → r ≡ step_of w → d' ≡ enrolled d w → Enrolled d v r d'
enlists {d} e f g = record { answered = f ∙ ap step_of (sym e); after = g ∙ ap (enrolled d) (sym e) }
