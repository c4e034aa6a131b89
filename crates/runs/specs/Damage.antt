-- WE NEVER DAMAGE A TABLE (`never_damaged`): after any run from fresh tables they are healthy, and healthy tables have their shapes and
-- no unsound slot, so that no message and no question is given 13 or 14. Assumes nothing.
use Rattle.std.specs.Prelude.{◌≡◌, refl, ◌⊎◌, ◌≢◌, Bool, true, false, List, ℕ, ◌*◌, ◌≤◌, ◌<◌, Option, Result, Some, None}
use Rattle.std.proofs.Common.{sym, ap, subst, ◌∙◌, inl, inr, arith}
use Rattle.std.proofs.lemmas.Bool.{false≢true}
use Rattle.book.specs.Book.{live}
use Rattle.reader.specs.Read.{answer}
use Rattle.slots.specs.Stored.{held_at}
use Rattle.apply.specs.Apply.{number_of}
use Rattle.apply.specs.Runs.{Tables, answer_to, reached}
use Rattle.numbers.specs.Shown.{answer_number}
use Rattle.read_theorems.proofs.Exactly.{read_exactly}
use Rattle.steps.specs.Asked.{Asked, register, start, take, close, replace, nothing, asked}
use Rattle.apply_theorems.specs.Statements.{IsLive, Broken, first, done, Earned, Judged, Given}
use Rattle.apply_theorems.specs.Means.{shaped_unique}
use Rattle.apply_theorems.proofs.Exactly.{apply_exactly}
use Rattle.accounts.specs.Accounts.{order_asked}
use Rattle.census.specs.Census.{count_asked}
use Rattle.levels.specs.Levels.{level_of, best_of, next_of}
use Rattle.replies.specs.Replies.{account_number, quote_number, count_number}
use Rattle.ask_theorems.specs.Statements.{in_book, Foul, QuoteExactly}
use Rattle.ask_theorems.specs.Exactly.{order_exactly, count_exactly}
use Rattle.ask_theorems.proofs.Exactly.{level_exactly, best_exactly, next_exactly}
use Rattle.runs.specs.Statements.{Run, Start, start_of, Healthy, NoDamage, NeverDamaged}
use Rattle.runs.specs.Orderly.{Orderly}
use Rattle.runs.specs.Healthy.{healthy_shaped, healthy_orderly, healthy_reached}
use Rattle.levels.specs.declared.Level.{Level}
use Rattle.orders.specs.declared.Order.{Order}
use Rattle.refusals.specs.declared.Refusal.{Refusal}

-- ---- a message

abbrev is_sound : Option Order → Bool
is_sound (Some o) = true
is_sound None = false

-- no live slot is unsound
never_unsound : {d b : List ℕ} {k s : ℕ} → Orderly d b k → s < 64 * k → live b s ≡ 1 → held_at b k s ≡ None → ⊥
never_unsound {s = s} h l a e = false≢true (ap is_sound (sym e ∙ (h.sound s l a).1))

unbroken : {d b : List ℕ} {k r : ℕ} → Orderly d b k → Broken b k r → ⊥
unbroken h x = never_unsound h x.lowest.inside x.lowest.alive x.unsound

-- a check that gives 12 or less, or never fails
check : {P Q : Type 0} {c n : ℕ} → (P → c ≤ 12) → (Q → n ≤ 12) → (P × (n ≡ c)) ⊎ ((P → ⊥) × Q) → n ≤ 12
check few next (inl x) = omega (arith, few x.0, x.1)
check few next (inr x) = next x.1

-- where no slot is broken, what is asked earns 12 or less
earned_few : (d b : List ℕ) (k : ℕ) (a : Asked) (n : ℕ) → ((r : ℕ) → Broken b k r → ⊥) → Earned d b k a n → n ≤ 12
earned_few d b k (register l symbol) n w = check (λ _. omega arith) (check (λ _. omega arith) (λ e. omega (arith, e)))
earned_few d b k (start o symbol) n w =
    check (λ _. omega arith)
    (check (λ _. omega arith) (check (λ _. omega arith) (check (λ _. omega arith) (λ e. omega (arith, e)))))
earned_few d b k (take how r l c) n w =
    check (λ _. omega arith)
    (check (λ x. absurd (w r x)) (check (λ _. omega arith) (check (λ _. omega arith) (λ e. omega (arith, e)))))
earned_few d b k (close r l) n w =
    check (λ _. omega arith) (check (λ x. absurd (w r x)) (check (λ _. omega arith) (λ e. omega (arith, e))))
earned_few d b k (replace original new l c p) n w =
    check (λ _. omega arith)
    (check (λ x. absurd (w original x)) (check (λ _. omega arith) (check (λ _. omega arith) (λ e. omega (arith, e)))))
earned_few d b k nothing n w = λ e. omega (arith, e)

-- healthy tables give 12 or less, whatever the bytes
pub healthy_few : (n k : ℕ) (t : Tables) (s : List ℕ) → Start n k → Healthy n k t → number_of (answer_to t s) ≤ 12
healthy_few n k t s z h = go ((apply_exactly t.directory t.book s (number_of (answer_to t s))).0 refl)
  where
    told : {j m : ℕ} → j ≡ k → ((answer_number (answer s) ≡ m) × (m ≢ 0)) ⊎ Judged t.directory t.book s j m → m ≤ 12
    told e (inl x) = omega (arith, x.0, (read_exactly s).no_other)
    told {j} {m} e (inr x) =
        earned_few t.directory t.book j (asked x.message) m (λ r y. unbroken (healthy_orderly h) (rw e at y)) x.earned

    go : Given t.directory t.book s (number_of (answer_to t s)) → number_of (answer_to t s) ≤ 12
    go (inl x) = absurd (x.0 k (healthy_shaped z h))
    go (inr x) = told (shaped_unique x.1 (healthy_shaped z h)) x.2

-- ---- a question

module _ {n k : ℕ} {t : Tables} (z : Start n k) (h : Healthy n k t) where
  -- a book: what is left are its checks
  booked_few : (checks : ℕ → ℕ → Type 0) (m : ℕ) → (checks k m → m ≤ 12) → in_book t.book checks m → m ≤ 12
  booked_few checks m next (inl x) = absurd (x.0 k (healthy_shaped z h).book)
  booked_few checks m next (inr x) =
      let j = x.1.0 in
      let same : j ≡ k = omega (arith, x.1.1.size, h.book_length) in
      next (subst (λ (i : ℕ). checks i m) same x.1.2)

  unfouled : Foul t.book k → ⊥
  unfouled x = never_unsound (healthy_orderly h) x.inside x.alive x.unsound

  order_few : (r : ℕ) → account_number (order_asked t.book r) ≤ 12
  order_few r =
      booked_few (λ i. first (IsLive t.book i r → ⊥) 10 (first (Broken t.book i r) 13 done)) _
      (check (λ _. omega arith) (check (λ x. absurd (unbroken (healthy_orderly h) x)) (λ e. omega (arith, e))))
      ((order_exactly t.book r (account_number (order_asked t.book r))).0 refl)

  -- of the level, the best and the next
  quote_few : (byte : ℕ) (q : Result (Option Level) Refusal) → QuoteExactly t.book byte q → quote_number q ≤ 12
  quote_few byte q exact =
      booked_few (λ i. first ((byte ≢ 66) × (byte ≢ 83)) 4 (first (Foul t.book i) 13 done)) _
      (check (λ _. omega arith) (check (λ x. absurd (unfouled x)) (λ e. omega (arith, e))))
      ((exact (quote_number q)).0 refl)

  count_few : count_number (count_asked t.book) ≤ 12
  count_few =
      booked_few (λ i. done) _ (λ e. omega (arith, e)) ((count_exactly t.book (count_number (count_asked t.book))).0 refl)

-- ---- after any run

harmless : {m : ℕ} → m ≤ 12 → NoDamage m
harmless l = (λ e. omega arith, λ e. omega arith)

pub never_damaged : (n k : ℕ) (ss : List (List ℕ)) → Start n k → Run ss → NeverDamaged n k ss
never_damaged n k ss z r =
    let t = reached (start_of n k) ss in
    let b = t.book in
    let h = healthy_reached n k ss z r in
    record {
      healthy = h;
      message = λ s. harmless (healthy_few n k t s z h);
      order = λ i. harmless (order_few z h i);
      level = λ l byte p. harmless (quote_few z h byte (level_of b l byte p) (level_exactly b l byte p));
      best = λ l byte. harmless (quote_few z h byte (best_of b l byte) (best_exactly b l byte));
      next = λ l byte p. harmless (quote_few z h byte (next_of b l byte p) (next_exactly b l byte p));
      count = harmless (count_few z h);
    }
