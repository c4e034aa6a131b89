-- Two answers that the contract of a question allows for the same book are one, and so are two answers with the same numbers: an
-- answer is made by its numbers, where a refusal's is not 0 (`Numbered`), as the questions' are. Assumes nothing.
use Rattle.refusals.specs.declared.Refusal.TheVariants.{Shape}
use Rattle.std.specs.Prelude.{◌≡◌, refl, ◌≢◌, Bool, true, false, cond, List, ℕ, eqb, length, Option, Result, Some, None, Ok, Err}
use Rattle.std.proofs.Common.{sym, ap, ap₂, ◌∙◌, arith, ne_eqb}
use Rattle.laws.specs.Lists.{nth}
use Rattle.refusals.specs.Refusals.{refusal_of, refusal_number, of_number}
use Rattle.kinds.specs.Sides.{side_of}
use Rattle.book.specs.Book.{words_of}
use Rattle.accounts.specs.Accounts.{order_asked}
use Rattle.census.specs.Census.{live_count, count_asked}
use Rattle.levels.specs.Levels.{level_at, best_where, better, no_quote, checked, level_of, best_of, next_of}
use Rattle.replies.specs.Replies.{account_number, account_row, quote_number, level_row, quote_row, count_number, count_row}
use Rattle.kinds.specs.SideLaws.{side_back}
use Rattle.apply_theorems.specs.Unique.{side_some}
use Rattle.ask_theorems.specs.Cases.{checked_has, where_has}
use Rattle.accounts.specs.declared.Account.{Account}
use Rattle.levels.specs.declared.Level.{Level}
use Rattle.refusals.specs.declared.Refusal.{Refusal}

-- ---- the contracts

pub account_unique : (b : List ℕ) (r : ℕ) (x y : Result Account Refusal) → x ≡ order_asked b r → y ≡ order_asked b r → x ≡ y
account_unique b r x y p q = p ∙ sym q

pub level_unique : (b : List ℕ) (l byte p : ℕ) (x y : Result (Option Level) Refusal) → x ≡ level_of b l byte p → y ≡ level_of b l byte p → x ≡ y
level_unique b l byte p x y e f = e ∙ sym f

pub best_unique : (b : List ℕ) (l byte : ℕ) (x y : Result (Option Level) Refusal) → x ≡ best_of b l byte → y ≡ best_of b l byte → x ≡ y
best_unique b l byte x y p q = p ∙ sym q

pub next_unique : (b : List ℕ) (l byte p : ℕ) (x y : Result (Option Level) Refusal) → x ≡ next_of b l byte p → y ≡ next_of b l byte p → x ≡ y
next_unique b l byte p x y e f = e ∙ sym f

pub count_unique : (b : List ℕ) (x y : Result ℕ Refusal) → x ≡ count_asked b → y ≡ count_asked b → x ≡ y
count_unique b x y p q = p ∙ sym q

-- ---- what is made by a number and a row

made : {A : Type 0} (of : ℕ → List ℕ → A) {x y : A} {m n : ℕ} {v w : List ℕ} → of m v ≡ x → of n w ≡ y → m ≡ n → v ≡ w → x ≡ y
made of p q e f = sym p ∙ ap₂ of e f ∙ q

-- ---- the order question: no side is 0, so a refusal may have any number

abbrev accounted_of : ℕ → List ℕ → Result Account Refusal
accounted_of n v =
    cond (eqb (nth v 5) 0) (Err (refusal_of n))
    (Ok (record {
      added = nth v 0;
      executed = nth v 1;
      cancelled = nth v 2;
      remaining = nth v 3;
      locate = record { 0 = nth v 4 };
      side = side_of (nth v 5);
      price = record { 0 = nth v 6 };
      attribution = nth v 7;
    }))

account_back : (x : Result Account Refusal) → accounted_of (account_number x) (account_row x) ≡ x
account_back (Err r) = ap Err (of_number r)
account_back (Ok a) = rw (side_some a.side, side_back a.side)

pub account_numbers_unique : (x y : Result Account Refusal) → account_number x ≡ account_number y → account_row x ≡ account_row y → x ≡ y
account_numbers_unique x y = made accounted_of (account_back x) (account_back y)

-- ---- the best and the next

-- a refusal has a number
abbrev pub Numbered : Result (Option Level) Refusal → Type 0
Numbered (Err r) = refusal_number r ≢ 0
Numbered (Ok None) = Unit {0}
Numbered (Ok (Some l)) = Unit {0}

abbrev quote_of : ℕ → List ℕ → Result (Option Level) Refusal
quote_of n v =
    cond (eqb n 0)
    (cond (eqb (nth v 0) 0) (Ok None) (Ok (Some (record { price = nth v 1; shares = nth v 2; orders = nth v 3 }))))
    (no_quote (refusal_of n))

quote_back : (x : Result (Option Level) Refusal) → Numbered x → quote_of (quote_number x) (quote_row x) ≡ x
quote_back (Err r) n = rw (ne_eqb _ _ n) (ap Err (of_number r))
quote_back (Ok None) n = refl
quote_back (Ok (Some l)) n = refl

pub quote_numbers_unique : (x y : Result (Option Level) Refusal) → Numbered x → Numbered y → quote_number x ≡ quote_number y → quote_row x ≡ quote_row y → x ≡ y
quote_numbers_unique x y n m = made quote_of (quote_back x n) (quote_back y m)

numbered_where : (b : List ℕ) (l byte : ℕ) (passes : ℕ → Bool)
    → Numbered (checked b byte (best_where b (words_of (length b)) l (side_of byte) passes))
numbered_where b l byte passes =
    checked_has Numbered b byte _ (λ n d. d) (where_has b (words_of (length b)) l (side_of byte) passes Numbered (λ x. tt) tt)

pub best_numbered : (b : List ℕ) (l byte : ℕ) → Numbered (best_of b l byte)
unfolding best_of
best_numbered b l byte = numbered_where b l byte (λ p. true)

pub next_numbered : (b : List ℕ) (l byte p : ℕ) → Numbered (next_of b l byte p)
unfolding next_of
next_numbered b l byte p = numbered_where b l byte (better (side_of byte) p)

-- ---- the level of a price, which is no number of the answer

-- a refusal has a number, and a level the price that was asked for
abbrev pub Priced : ℕ → Result (Option Level) Refusal → Type 0
Priced p (Err r) = refusal_number r ≢ 0
Priced p (Ok None) = ⊥
Priced p (Ok (Some l)) = l.price ≡ p

abbrev level_for : ℕ → ℕ → List ℕ → Result (Option Level) Refusal
level_for p n v = cond (eqb n 0) (Ok (Some (record { price = p; shares = nth v 0; orders = nth v 1 }))) (no_quote (refusal_of n))

level_back : (p : ℕ) (x : Result (Option Level) Refusal) → Priced p x → level_for p (quote_number x) (level_row x) ≡ x
level_back p (Err r) n = rw (ne_eqb _ _ n) (ap Err (of_number r))
level_back p (Ok None) n = absurd n
level_back p (Ok (Some l)) e = rw (← e)

pub level_numbers_unique : (p : ℕ) (x y : Result (Option Level) Refusal) → Priced p x → Priced p y
    → quote_number x ≡ quote_number y → level_row x ≡ level_row y → x ≡ y
level_numbers_unique p x y n m = made (level_for p) (level_back p x n) (level_back p y m)

pub level_priced : (b : List ℕ) (l byte p : ℕ) → Priced p (level_of b l byte p)
unfolding level_of level_at
level_priced b l byte p = checked_has (Priced p) b byte _ (λ n d. d) refl

-- ---- the live count

abbrev pub NumberedCount : Result ℕ Refusal → Type 0
NumberedCount (Err r) = refusal_number r ≢ 0
NumberedCount (Ok n) = Unit {0}

abbrev counted_of : ℕ → List ℕ → Result ℕ Refusal
counted_of n v = cond (eqb n 0) (Ok (nth v 0)) (Err (refusal_of n))

count_back : (x : Result ℕ Refusal) → NumberedCount x → counted_of (count_number x) (count_row x) ≡ x
count_back (Err r) n = rw (ne_eqb _ _ n) (ap Err (of_number r))
count_back (Ok k) n = refl

pub count_numbers_unique : (x y : Result ℕ Refusal) → NumberedCount x → NumberedCount y → count_number x ≡ count_number y → count_row x ≡ count_row y → x ≡ y
count_numbers_unique x y n m = made counted_of (count_back x n) (count_back y m)

pub count_numbered : (b : List ℕ) → NumberedCount (count_asked b)
unfolding count_asked
count_numbered b = go (eqb (words_of (length b)) 0)
  where
    go : (t : Bool) → NumberedCount (cond t (Err Shape) (Ok (live_count b (words_of (length b)))))
    go true = λ e. omega arith
    go false = tt
