-- Each way through the call is a case of `applied`. Assumes nothing.
use Rattle.refusals.specs.declared.Refusal.TheVariants.{Shape}
use Rattle.std.specs.Prelude.{Result, Ok, Err}
use Prim.Native.Nat.{ℕ}
use mathlib.Core.Path.{◌≡◌, sym, ap, ◌∙◌}
use mathlib.Core.Bool.{true, false}
use mathlib.Core.List.{List}
use lib.ListN.{length}
use Rattle.refusals.specs.declared.Refusal.{Refusal}
use Rattle.messages.specs.declared.Message.{Message}
use Rattle.book.specs.Book.{words_of}
use Rattle.enroll.specs.Enrolled.{enrolled}
use Rattle.fresh.specs.Fresh.{good_shapes}
use Rattle.reader.specs.Read.{answer}
use Rattle.decide.specs.Decide.{step_of}
use Rattle.steps.specs.Asked.{asked}
use Rattle.steps.specs.Steps.{Does, verdict_on, slot_sought}
use Rattle.apply.specs.Apply.{After, concluded, settled, applied}
use Rattle.apply.specs.ApplyLaws.{bad_shapes, unread, judgement}
use Rattle.apply.specs.declared.Outcome.{Outcome}
use Rattle.decide.specs.declared.Step.{Step}

abbrev pub leaves : Result Outcome Refusal → List ℕ → List ℕ → After
leaves o d b = record { outcome = o; directory = d; book = b }

pub shapeless : (d b s : List ℕ) (o : Result Outcome Refusal) → good_shapes d b ≡ false → o ≡ Err Shape → leaves o d b ≡ applied d b s
shapeless d b s o e f = ap (λ x. leaves x d b) f ∙ sym (bad_shapes d b s e)

pub illegible : (d b s : List ℕ) (r : Refusal) → good_shapes d b ≡ true → answer s ≡ Err r → leaves (Err r) d b ≡ applied d b s
illegible d b s r e f = sym (unread d b s e f)

pub done : (d b s : List ℕ) (k : ℕ) (x : Message) (r : Result Step Refusal) (o : Result Outcome Refusal) (d' b' : List ℕ) → good_shapes d b ≡ true → answer s ≡ Ok x
    → k ≡ words_of (length b) → Does d b k (asked x) r d' b' → o ≡ concluded x r → leaves o d' b' ≡ applied d b s
done d b s k x r o d' b' e f w t c =
    let ends = c ∙ ap (concluded x) t.answered in
    ap (λ y. leaves y d' b') ends
    ∙ ap (λ y. leaves (concluded x (step_of (verdict_on d b k (asked x)))) y b') t.directory
    ∙ ap (leaves (concluded x (step_of (verdict_on d b k (asked x)))) (enrolled d (verdict_on d b k (asked x)))) t.book
    ∙ ap (λ (n : ℕ). settled d b n x (slot_sought b n (asked x)) (verdict_on d b n (asked x))) w
    ∙ sym (judgement d b s e f)
