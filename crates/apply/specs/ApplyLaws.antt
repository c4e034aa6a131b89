-- The cases of `applied`, one law a case, so that nobody else has to open it. Assumes nothing.
use Rattle.refusals.specs.declared.Refusal.TheVariants.{Shape}
use Rattle.std.specs.Prelude.{ℕ, ◌≡◌, true, false, List, length, Ok, Err}
use Rattle.std.proofs.Common.{ap, ◌∙◌}
use Rattle.messages.specs.declared.Message.{Message}
use Rattle.refusals.specs.declared.Refusal.{Refusal}
use Rattle.book.specs.Book.{words_of}
use Rattle.fresh.specs.Fresh.{good_shapes}
use Rattle.reader.specs.Read.{answer}
use Rattle.steps.specs.Asked.{asked}
use Rattle.steps.specs.Steps.{verdict_on, slot_sought}
use Rattle.apply.specs.Apply.{unchanged, settled, apply_read, applied}

pub bad_shapes : (d b s : List ℕ) → good_shapes d b ≡ false → applied d b s ≡ unchanged d b Shape
unfolding applied
bad_shapes d b s e = rw e

pub good_shapes_lem : (d b s : List ℕ) → good_shapes d b ≡ true → applied d b s ≡ apply_read d b (words_of (length b)) (answer s)
unfolding applied
good_shapes_lem d b s e = rw e

pub unread : (d b s : List ℕ) {r : Refusal} → good_shapes d b ≡ true → answer s ≡ Err r → applied d b s ≡ unchanged d b r
unread d b s e f = good_shapes_lem d b s e ∙ ap (apply_read d b (words_of (length b))) f

pub judgement : (d b s : List ℕ) {x : Message} → good_shapes d b ≡ true → answer s ≡ Ok x
    → applied d b s ≡ settled d b (words_of (length b)) x (slot_sought b (words_of (length b)) (asked x)) (verdict_on d b (words_of (length b)) (asked x))
judgement d b s e f = good_shapes_lem d b s e ∙ ap (apply_read d b (words_of (length b))) f
