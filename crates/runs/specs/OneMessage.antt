-- One message over healthy tables: it is refused unread, or its verdict moves the book's totals (`step_moved`). Assumes nothing.
use Rattle.std.specs.Prelude.{◌≡◌, List, ℕ, length, Ok, Err}
use Rattle.std.proofs.Common.{sym, ap, subst, ◌∙◌}
use Rattle.messages.specs.declared.Message.{Message}
use Rattle.refusals.specs.declared.Refusal.{Refusal}
use Rattle.book.specs.Book.{words_of}
use Rattle.reader.specs.Read.{answer}
use Rattle.steps.specs.Asked.{asked}
use Rattle.steps.specs.Steps.{verdict_on, slot_sought}
use Rattle.apply.specs.Apply.{After, unchanged, settled, applied}
use Rattle.apply.specs.ApplyLaws.{unread, judgement}
use Rattle.apply.specs.Runs.{Tables, tables_after}
use Rattle.apply_theorems.specs.Statements.{Shaped}
use Rattle.apply_theorems.specs.Means.{shaped_words, shaped_good}
use Rattle.moves.specs.Lawful.{Bytes}
use Rattle.moves.specs.Moves.{Moved}
use Rattle.moves.specs.Facts.{Facts}
use Rattle.moves.specs.Judged.{facts}
use Rattle.moves.proofs.Moved.{moved}
use Rattle.moves.specs.Reads.{lawful}
use Rattle.runs.specs.Statements.{Start, Healthy}
use Rattle.runs.specs.Healthy.{Fitting, healthy_shaped, healthy_sized}

module _ {n k : ℕ} {t : Tables} (z : Start n k) (h : Healthy n k t) where
  shaped : Shaped t.directory t.book k
  shaped = healthy_shaped z h

  pub words : words_of (length t.book) ≡ k
  words = shaped_words shaped

  -- bytes that are not a message
  pub step_unread : (s : List ℕ) (r : Refusal) → answer s ≡ Err r
      → applied t.directory t.book s ≡ unchanged t.directory t.book r
  step_unread s r e = unread t.directory t.book s (shaped_good shaped) e

  -- a message
  pub step_read : (s : List ℕ) (x : Message) → answer s ≡ Ok x
      → applied t.directory t.book s
      ≡ settled t.directory t.book k x (slot_sought t.book k (asked x)) (verdict_on t.directory t.book k (asked x))
  step_read s x e =
      judgement t.directory t.book s (shaped_good shaped) e
      ∙ ap (λ (i : ℕ). settled t.directory t.book i x (slot_sought t.book i (asked x)) (verdict_on t.directory t.book i (asked x))) words

  module _ (f : Fitting t) (s : List ℕ) (x : Message) (y : Bytes s) (e : answer s ≡ Ok x) where
    pub step_facts : Facts t.directory t.book k (asked x) (verdict_on t.directory t.book k (asked x))
    step_facts = facts t.directory t.book k (asked x) (healthy_sized z h) f.book (lawful s x y e)

    pub step_moved : Moved t.book (tables_after t s).book k (verdict_on t.directory t.book k (asked x))
    step_moved =
        subst (λ (a : After). Moved t.book a.book k (verdict_on t.directory t.book k (asked x))) (sym (step_read s x e))
        (moved t.directory t.book k (asked x) (healthy_sized z h) f.book (lawful s x y e))
