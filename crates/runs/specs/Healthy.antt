-- Tables stay healthy: made fresh they are, and their numbers fit 64 bits, and both last through any message, so through any run.
-- Assumes nothing.
use Rattle.std.specs.Prelude.{◌≡◌, refl, List, [], ◌∷◌, ℕ, zero, suc, ◌+◌, ◌*◌, ◌/◌, ◌%◌, ◌^◌, get_or, replicate, Result, Ok, Err}
use Rattle.std.proofs.Common.{sym, ap, subst, ◌∙◌, arith}
use mathlib.Core.List.Memᴰ.{head as here}
use mathlib.Core.List.Memᴰ.{tail as there}
use Rattle.std.proofs.Math.Nat.{zero-div}
use Rattle.std.proofs.lemmas.List.{length-replicate}
use Rattle.laws.specs.Definitions.{bit}
use Rattle.directory.specs.Directory.{unused_of}
use Rattle.book.specs.Book.{live, number_at}
use Rattle.book.specs.Shape.{Sized, length_sized}
use Rattle.reader.specs.Read.{answer}
use Rattle.decide.specs.Decide.{Verdict}
use Rattle.slots.specs.Stored.{stored}
use Rattle.enroll.specs.Enrolled.{enrolled}
use Rattle.steps.specs.Asked.{Asked, asked}
use Rattle.steps.specs.Steps.{verdict_on, slot_sought}
use Rattle.apply.specs.Apply.{After, applied}
use Rattle.apply.specs.ApplyLaws.{unread, judgement}
use Rattle.apply.specs.Runs.{Tables, tables_after, reached}
use Rattle.levels.specs.Totals.{total}
use Rattle.levels.specs.TotalLaws.{none_total}
use Rattle.levels.specs.Levels.{unsoundness}
use Rattle.apply_theorems.specs.Statements.{Shaped}
use Rattle.apply_theorems.specs.Means.{shaped_good, shaped_words}
use Rattle.moves.specs.Lawful.{Bytes}
use Rattle.moves.specs.Moves.{Numbers}
use Rattle.moves.specs.Reads.{lawful}
use Rattle.moves.specs.Facts.{Facts}
use Rattle.moves.specs.Judged.{facts}
use Rattle.moves.specs.Kept.{stored-length, enrolled-length, stored-numbers, enrolled-numbers}
use Rattle.runs.specs.Statements.{Run, Start, start_of, Healthy}
use Rattle.runs.specs.Orderly.{Orderly, stored_orderly, enrolled_nought}
use Rattle.messages.specs.declared.Message.{Message}
use Rattle.refusals.specs.declared.Refusal.{Refusal}

-- every number of both tables fits 64 bits
pub record Fitting (t : Tables) : Type 0 where
  pub directory : Numbers t.directory
  pub book : Numbers t.book

-- ---- tables made fresh

all_zero : (n i : ℕ) → ◌≡◌ {A = ℕ} (get_or (replicate n 0) i 0) 0
all_zero zero i = refl
all_zero (suc n) zero = refl
all_zero (suc n) (suc i) = all_zero n i

pub none_live : (m s : ℕ) → live (replicate m 0) s ≡ 0
unfolding live bit
none_live m s = rw (all_zero m (s / 64), zero-div (2 ^ (s % 64)))

all_numbers_zero : (m k s i : ℕ) → number_at (replicate m 0) k s i ≡ 0
unfolding number_at
all_numbers_zero m k s i = all_zero m (k + 4 * s + i)

pub healthy_start : (n k : ℕ) → Start n k → Healthy n k (start_of n k)
unfolding unused_of
healthy_start n k z =
    record {
      directory_length = length-replicate n 0;
      book_length = length-replicate (257 * k) 0;
      nought = all_zero n 0;
      sound = λ s l e. absurd (omega (arith, none_live (257 * k) s, e));
      apart = λ s u l m e f w. absurd (omega (arith, none_live (257 * k) s, e));
      free = λ s l e i m. all_numbers_zero (257 * k) k s i;
    }

pub fitting_start : (n k : ℕ) → Start n k → Fitting (start_of n k)
fitting_start n k z =
    record { directory = λ i. omega (arith, all_zero n i); book = λ i. omega (arith, all_zero (257 * k) i) }

-- ---- what health is made of

module _ {n k : ℕ} {t : Tables} where
  pub healthy_shaped : Start n k → Healthy n k t → Shaped t.directory t.book k
  healthy_shaped z h =
      record {
        directory = rw h.directory_length z.directory;
        book = record { some = z.book.some; few = z.book.few; size = h.book_length };
      }

  pub healthy_sized : Start n k → Healthy n k t → Sized t.book k
  healthy_sized z h = length_sized (healthy_shaped z h).book

  pub healthy_orderly : Healthy n k t → Orderly t.directory t.book k
  healthy_orderly h = record { sound = h.sound; apart = h.apart; free = h.free }

  -- no live slot is unsound
  pub healthy_sound : Healthy n k t → total unsoundness t.book k ≡ 0
  healthy_sound h = none_total unsoundness t.book k λ s l e. ap unsoundness (h.sound s l e).1

-- ---- one message

-- the tables after a verdict about what is asked
abbrev pub settled_tables : Tables → ℕ → Asked → Verdict → Tables
settled_tables t k a v = record { directory = enrolled t.directory v; book = stored t.book k (slot_sought t.book k a) v }

-- what holds of healthy tables, and of them after any verdict with its facts, holds after a message
pub after_keeps : (P : Tables → Type 0) (n k : ℕ) (t : Tables) (s : List ℕ) → Start n k → Healthy n k t → Fitting t → Bytes s → P t
    → ((a : Asked) (v : Verdict) → Facts t.directory t.book k a v → P (settled_tables t k a v)) → P (tables_after t s)
after_keeps P n k t s z h w y p next = go (answer s) refl
  where
    shaped : Shaped t.directory t.book k
    shaped = healthy_shaped z h

    goes : {x : After} → applied t.directory t.book s ≡ x → P (record { directory = x.directory; book = x.book }) → P (tables_after t s)
    goes e = subst (λ (x : After). P (record { directory = x.directory; book = x.book })) (sym e)

    go : (x : Result Message Refusal) → answer s ≡ x → P (tables_after t s)
    go (Err r) e = goes (unread t.directory t.book s (shaped_good shaped) e) p
    go (Ok m) e =
        let f = facts t.directory t.book k (asked m) (healthy_sized z h) w.book (lawful s m y e) in
        goes (judgement t.directory t.book s (shaped_good shaped) e)
        (rw (shaped_words shaped) (next (asked m) (verdict_on t.directory t.book k (asked m)) f))

-- after a verdict with its facts
settled_healthy : {n k : ℕ} {t : Tables} → Start n k → Healthy n k t → (a : Asked) (v : Verdict)
    → Facts t.directory t.book k a v → Healthy n k (settled_tables t k a v)
settled_healthy {n} {k} {t} z h a v f =
    let o = stored_orderly t.directory t.book k a (healthy_sized z h) (healthy_orderly h) v f in
    record {
      directory_length = enrolled-length t.directory v ∙ h.directory_length;
      book_length = stored-length t.book k (slot_sought t.book k a) v ∙ h.book_length;
      nought = enrolled_nought t.directory t.book k a v f ∙ h.nought;
      sound = o.sound;
      apart = o.apart;
      free = o.free;
    }

settled_fitting : {t : Tables} (k : ℕ) → Fitting t → (a : Asked) (v : Verdict) → Facts t.directory t.book k a v
    → Fitting (settled_tables t k a v)
settled_fitting {t} k w a v f =
    record {
      directory = enrolled-numbers t.directory t.book k a v f w.directory;
      book = stored-numbers t.directory t.book k a (slot_sought t.book k a) v f w.book;
    }

pub healthy_after : (n k : ℕ) (t : Tables) (s : List ℕ) → Start n k → Healthy n k t → Fitting t → Bytes s → Healthy n k (tables_after t s)
healthy_after n k t s z h w y = after_keeps (Healthy n k) n k t s z h w y h (settled_healthy z h)

pub fitting_after : (n k : ℕ) (t : Tables) (s : List ℕ) → Start n k → Healthy n k t → Fitting t → Bytes s → Fitting (tables_after t s)
fitting_after n k t s z h w y = after_keeps Fitting n k t s z h w y w (settled_fitting k w)

-- ---- a run

-- from any tables that are healthy and fitting
pub healthy_through : (n k : ℕ) (ss : List (List ℕ)) (t : Tables) → Start n k → Healthy n k t → Fitting t → Run ss
    → Healthy n k (reached t ss) × Fitting (reached t ss)
healthy_through n k [] t z h w r = (h, w)
healthy_through n k (s ∷ ss) t z h w r =
    let y = r s (here refl) in
    healthy_through n k ss (tables_after t s) z (healthy_after n k t s z h w y) (fitting_after n k t s z h w y) λ x m. r x (there m)

pub healthy_reached : (n k : ℕ) (ss : List (List ℕ)) → Start n k → Run ss → Healthy n k (reached (start_of n k) ss)
healthy_reached n k ss z r = (healthy_through n k ss (start_of n k) z (healthy_start n k z) (fitting_start n k z) r).0
