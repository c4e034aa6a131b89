-- What a refused call touches: nothing. Assumes nothing.
use Rattle.std.specs.Prelude.{◌≡◌, Bool, List, ℕ, length, Result, Ok, Err}
use Rattle.std.proofs.Math.Path.{refl}
use Rattle.std.proofs.Common.{sym, ap, ◌∙◌}
use Rattle.std.proofs.Math.Bool.{true, false}
use Rattle.std.proofs.lemmas.Bool.{false≢true}
use Rattle.messages.specs.declared.Message.{Message}
use Rattle.refusals.specs.declared.Refusal.{Refusal}
use Rattle.book.specs.Book.{words_of}
use Rattle.slots.specs.Stored.{stored}
use Rattle.enroll.specs.Enrolled.{enrolled}
use Rattle.fresh.specs.Fresh.{good_shapes}
use Rattle.reader.specs.Read.{answer}
use Rattle.decide.specs.Decide.{Verdict, refuse, enter, alter, leave, renew, enroll, pass, step_of}
use Rattle.steps.specs.Asked.{asked}
use Rattle.steps.specs.Steps.{verdict_on, slot_sought}
use Rattle.apply.specs.declared.Outcome.TheVariants.{Accepted, Moved, Replaced}
use Rattle.apply.specs.Apply.{After, concluded, applied}
use Rattle.apply.specs.ApplyLaws.{bad_shapes, unread, judgement}
use Rattle.apply_theorems.specs.Statements.{Unchanged}
use Rattle.apply.specs.declared.Outcome.{Outcome}

-- ---- a refused call

abbrev is_refused : Result Outcome Refusal → Bool
is_refused (Err r) = true
is_refused (Ok (Accepted m)) = false
is_refused (Ok (Moved m f)) = false
is_refused (Ok (Replaced m f g)) = false

-- the tables after a verdict are those before
record Idle (d b : List ℕ) (k s : ℕ) (v : Verdict) : Type 0 where
  directory : enrolled d v ≡ d
  book : stored b k s v ≡ b

refused_idle : {d b : List ℕ} {k s : ℕ} (m : Message) (v : Verdict) → is_refused (concluded m (step_of v)) ≡ true → Idle d b k s v
refused_idle m (refuse n) e = record { directory = refl; book = refl }
refused_idle m (enter o) e = absurd (false≢true e)
refused_idle m (alter o o' n) e = absurd (false≢true e)
refused_idle m (leave o) e = absurd (false≢true e)
refused_idle m (renew o o') e = absurd (false≢true e)
refused_idle m (enroll l symbol) e = absurd (false≢true e)
refused_idle m pass e = absurd (false≢true e)

-- a refused call changes nothing
pub refused_unchanged : (d b s : List ℕ) (r : Refusal) → (applied d b s).outcome ≡ Err r → Unchanged d b s
refused_unchanged d b s r p = go (good_shapes d b) refl
  where
    same : {x : After} → applied d b s ≡ x → x.directory ≡ d → x.book ≡ b → Unchanged d b s
    same e f g = record { directory = ap (λ (x : After). x.directory) e ∙ f; book = ap (λ (x : After). x.book) e ∙ g }

    read_one : good_shapes d b ≡ true → (a : Result Message Refusal) → answer s ≡ a → Unchanged d b s
    read_one e (Err r) f = same (unread d b s e f) refl refl
    read_one e (Ok m) f =
        let k = words_of (length b) in
        let q = judgement d b s e f in
        let i : Idle d b k (slot_sought b k (asked m)) (verdict_on d b k (asked m)) =
        refused_idle m (verdict_on d b k (asked m)) (ap (λ (x : After). is_refused x.outcome) (sym q) ∙ ap is_refused p) in
        same q i.directory i.book

    go : (t : Bool) → good_shapes d b ≡ t → Unchanged d b s
    go true e = read_one e (answer s) refl
    go false e = same (bad_shapes d b s e) refl refl
