-- Each number of the questions about levels is given exactly when 01 says so: 14 by `exactly_in`, and then check by check, each test
-- failing exactly where its condition holds. Assumes nothing.
use Rattle.refusals.specs.declared.Refusal.TheVariants.{Book, Field, Shape}
use Rattle.std.specs.Prelude.{◌≡◌, refl, ◌≢◌, Bool, true, cond, ◌||◌, List, ℕ, ◌<◌, eqb, length, Option, Result, Some, None, Ok}
use Rattle.std.proofs.Common.{ap, inl, inr, arith}
use Rattle.kinds.specs.Sides.{side_of, good_side}
use Rattle.book.specs.Book.{words_of}
use Rattle.levels.specs.Totals.{total}
use Rattle.levels.specs.TotalLaws.{total_none, some_total}
use Rattle.levels.specs.Levels.{unsoundness, level_at, best_where, better, no_quote, checked, level_of, best_of, next_of}
use Rattle.replies.specs.Replies.{quote_number}
use Rattle.apply_theorems.specs.Statements.{first, done}
use Rattle.apply_theorems.specs.Earns.{Test, alike, differ, one_of, last}
use Rattle.apply_theorems.specs.Earns.Test.{passes, fails}
use Rattle.ask_theorems.specs.Statements.{Foul, QuoteExactly}
use Rattle.ask_theorems.specs.Books.{exactly_in}
use Rattle.ask_theorems.specs.Cases.{where_has}
use Rattle.levels.specs.declared.Level.{Level}
use Rattle.orders.specs.declared.Order.{Order}
use Rattle.refusals.specs.declared.Refusal.{Refusal}
use Rattle.refusals.specs.Refusals.{refusal_number}

-- ---- the questions about levels: 14, 4, 13

-- a check's number where its test fails, else the number of what comes next
checking : {P : Type 0} {t : Bool} (c : Refusal) (rest : ℕ → Type 0) (q : Result (Option Level) Refusal) → Test P t → rest (quote_number q)
    → first P (refusal_number c) rest (quote_number (cond t q (no_quote c)))
checking c rest q (passes n) r = inr (n, r)
checking c rest q (fails p) r = inl (p, refl)

either : {P Q : Type 0} {t u : Bool} → Test P t → Test Q u → Test (P × Q) (t || u)
either (passes n) x = passes (λ y. n y.0)
either (fails p) (passes n) = passes (λ y. n y.1)
either (fails p) (fails q) = fails (p, q)

sided : (byte : ℕ) → Test ((byte ≢ 66) × (byte ≢ 83)) (good_side byte)
unfolding good_side
sided byte = either (differ byte 66) (differ byte 83)

weight_unsound : (h : Option Order) → 0 < unsoundness h → h ≡ None
weight_unsound (Some o) l = absurd (omega arith)
weight_unsound None l = refl

foul : (b : List ℕ) (k : ℕ) → Test (Foul b k) (eqb (total unsoundness b k) 0)
foul b k = alike unsound counts (differ (total unsoundness b k) 0)
  where
    unsound : total unsoundness b k ≢ 0 → Foul b k
    unsound d =
        let x = some_total unsoundness b k (omega arith) in
        record { slot = x.0; inside = x.1; alive = x.2; unsound = weight_unsound _ x.3 }

    counts : Foul b k → total unsoundness b k ≢ 0
    counts x z =
        omega (arith, total_none unsoundness b k z x.slot x.inside x.alive, ap unsoundness x.unsound)

-- a question that asks for any quote that is no refusal
checked_exactly : (b : List ℕ) (byte : ℕ) (q : Result (Option Level) Refusal) → quote_number q ≡ 0 → QuoteExactly b byte (checked b byte q)
checked_exactly b byte q e =
    let k = words_of (length b) in
    exactly_in quote_number b
    (λ k. first ((byte ≢ 66) × (byte ≢ 83)) 4 (first (Foul b k) 13 done))
    (no_quote Shape) _ refl
    (λ k. one_of (one_of last))
    (checking Field (first (Foul b k) 13 done) _ (sided byte) (checking Book done q (foul b k) e))

pub level_exactly : (b : List ℕ) (l byte p : ℕ) → QuoteExactly b byte (level_of b l byte p)
unfolding level_of
level_exactly b l byte p = checked_exactly b byte (Ok (Some (level_at b (words_of (length b)) l (side_of byte) p))) refl

-- the best level of those that pass, or none
where_exactly : (b : List ℕ) (l byte : ℕ) (test : ℕ → Bool)
    → QuoteExactly b byte (checked b byte (best_where b (words_of (length b)) l (side_of byte) test))
where_exactly b l byte test =
    checked_exactly b byte _ (where_has b (words_of (length b)) l (side_of byte) test (λ q. quote_number q ≡ 0) (λ x. refl) refl)

pub best_exactly : (b : List ℕ) (l byte : ℕ) → QuoteExactly b byte (best_of b l byte)
unfolding best_of
best_exactly b l byte = where_exactly b l byte (λ p. true)

pub next_exactly : (b : List ℕ) (l byte p : ℕ) → QuoteExactly b byte (next_of b l byte p)
unfolding next_of
next_exactly b l byte p = where_exactly b l byte (better (side_of byte) p)
