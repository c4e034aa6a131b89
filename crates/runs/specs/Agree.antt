-- BOOKS AGREE (`agree`): from tables made fresh, alike for they are empty, no message tells apart two books that are never full,
-- whatever their sizes. Tables of good shapes are made fresh to `start_of` (`made_start`), so two tasks whose tables have the same lengths
-- start, and stay, equal (`tasks_agree`). Assumes nothing.
use Rattle.refusals.specs.declared.Refusal.TheVariants.{Shape}
use Rattle.std.specs.Prelude.{◌≡◌, refl, Bool, true, false, cond, List, [], ◌∷◌, ℕ, ◌*◌, length, replicate, Ok, Err}
use Rattle.std.proofs.Common.{sym, ap, ◌∙◌, arith}
use mathlib.Core.List.Memᴰ.{head as here}
use mathlib.Core.List.Memᴰ.{tail as there}
use Rattle.book.specs.Book.{words_of}
use Rattle.fresh.specs.Fresh.{good_shapes, made_number, made_of, fresh_of}
use Rattle.apply.specs.Runs.{Tables, made, tables_after, answer_to, reached, said}
use Rattle.apply_theorems.specs.Means.{shaped_good, good_shaped}
use Rattle.runs.specs.Statements.{Run, Start, start_of, MadeStart, Alike, BothRoom, NeverFull, TasksAgree, Agree}
use Rattle.runs.specs.Healthy.{Fitting, healthy_start, fitting_start, fitting_after}
use Rattle.runs.specs.RunLaws.{fresh_total}
use Rattle.runs.specs.AlikeAsks.{asks_alike}
use Rattle.runs.specs.Alike.{alike_step}

-- ---- the start

pub start_alike : (n k m : ℕ) → Start n k → Start n m → Alike n k m (start_of n k) (start_of n m)
start_alike n k m z y = record {
  directory = refl;
  first = healthy_start n k z;
  second = healthy_start n m y;
  orders = λ w. fresh_total w n k ∙ sym (fresh_total w n m);
}

-- ---- a run

-- what two runs from tables that are alike say, and where they come to
record Together (n k m : ℕ) (t u : Tables) (ss : List (List ℕ)) : Type 0 where
  answers : said t ss ≡ said u ss
  tables : Alike n k m (reached t ss) (reached u ss)

together : (n k m : ℕ) (ss : List (List ℕ)) (t u : Tables) → Start n k → Start n m → Alike n k m t u → Fitting t → Fitting u → Run ss
    → NeverFull (said t ss) → NeverFull (said u ss) → Together n k m t u ss
together n k m [] t u z y a f g run p q = record { answers = refl; tables = a }
together n k m (s ∷ ss) t u z y a f g run p q =
    let bytes = run s (here refl) in
    let room : BothRoom t u s =
    (p (record { bytes = s; outcome = answer_to t s }) (here refl), q (record { bytes = s; outcome = answer_to u s }) (here refl)) in
    let step = alike_step n k m t u s z y a f g bytes room in
    let rest = together n k m ss (tables_after t s) (tables_after u s) z y step.tables
    (fitting_after n k t s z a.first f bytes) (fitting_after n m u s y a.second g bytes)
    (λ x h. run x (there h)) (λ x h. p x (there h)) (λ x h. q x (there h)) in
    record { answers = λ i. record { bytes = s; outcome = step.answer i } ∷ rest.answers i; tables = rest.tables }

pub agree : (n k m : ℕ) (ss : List (List ℕ)) → Start n k → Start n m → Run ss → NeverFull (said (start_of n k) ss)
    → NeverFull (said (start_of n m) ss) → Agree n k m ss
agree n k m ss z y run p q =
    let h = together n k m ss (start_of n k) (start_of n m) z y (start_alike n k m z y) (fitting_start n k z) (fitting_start n m y) run p q in
    record {
      answers = h.answers;
      tables = h.tables;
      questions = asks_alike n k m (reached (start_of n k) ss) (reached (start_of n m) ss) z y h.tables;
    }

-- ---- tables made fresh

made_fresh : (d b t : List ℕ) → good_shapes d b ≡ true → fresh_of d b t ≡ replicate (length t) 0
unfolding fresh_of
made_fresh d b t e = ap (λ x. cond x (replicate (length t) 0) t) e

pub made_start : (n k : ℕ) (d b : List ℕ) → Start n k → length d ≡ n → length b ≡ 257 * k → MadeStart n k d b
unfolding made_of
made_start n k d b z e f =
    let good : good_shapes d b ≡ true =
    shaped_good (record { directory = rw e z.directory; book = record { some = z.book.some; few = z.book.few; size = f } }) in
    record {
      number = ap (λ x. made_number (cond x (Ok tt) (Err Shape))) good;
      tables = λ i. record {
        directory = (made_fresh d b d good ∙ ap (λ (m : ℕ). replicate m 0) e) i;
        book = (made_fresh d b b good ∙ ap (λ (m : ℕ). replicate m 0) f) i;
      };
    }

-- ---- two tasks

-- tables that were made fresh had good shapes
were_good : (d b : List ℕ) → made_number (made_of d b) ≡ 0 → good_shapes d b ≡ true
unfolding made_of
were_good d b e = go (good_shapes d b) e
  where
    go : (x : Bool) → made_number (cond x (Ok tt) (Err Shape)) ≡ 0 → x ≡ true
    go true e = refl
    go false e = absurd (omega arith)

pub tasks_agree : (d b d' b' : List ℕ) (ss : List (List ℕ)) → length d' ≡ length d → length b' ≡ length b → made_number (made_of d b) ≡ 0
    → TasksAgree d b d' b' ss
tasks_agree d b d' b' ss e f made_one =
    let s = good_shaped d b (were_good d b made_one) in
    let z : Start (length d) (words_of (length b)) = record { directory = s.directory; book = record { some = s.book.some; few = s.book.few; size = refl } } in
    let one = made_start (length d) (words_of (length b)) d b z refl s.book.size in
    let other = made_start (length d) (words_of (length b)) d' b' z e (f ∙ s.book.size) in
    let same : made d b ≡ made d' b' = one.tables ∙ sym other.tables in
    record {
      number = other.number;
      answers = ap (λ (t : Tables). said t ss) same;
      tables = ap (λ (t : Tables). reached t ss) same;
    }
