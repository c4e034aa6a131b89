-- Each number of the order question and of the live count is given exactly when 01 says so: 14 by `exactly_in`, and then check by
-- check, each test failing exactly where its condition holds. And a sound order's account is its answer (`order_means`). Assumes
-- nothing.
use Rattle.refusals.specs.declared.Refusal.TheVariants.{Book, NoOrder, Shape}
use Rattle.std.specs.Prelude.{◌≡◌, refl, List, ℕ, length, Some, None, Ok, Err}
use Rattle.std.proofs.Common.{ap, arith, ne_eqb, subst}
use Rattle.book.specs.Book.{words_of, find, BookLength}
use Rattle.book.specs.Shape.{length_words}
use Rattle.orders.specs.declared.Order.{Order}
use Rattle.decide.specs.Decide.{Seen, unseen, something, Verdict, refuse, pass, step_of}
use Rattle.slots.specs.Stored.{seen_in}
use Rattle.accounts.specs.Accounts.{account_of, accounted, order_asked}
use Rattle.census.specs.Census.{live_count, count_asked}
use Rattle.replies.specs.Replies.{account_number, count_number}
use Rattle.apply_theorems.specs.Statements.{IsLive, Broken, IsOrder, first, done}
use Rattle.apply_theorems.specs.Sights.{lowest-live, Sight, sight, order_unique, order_sound}
use Rattle.apply_theorems.specs.Sights.Sight.{found_nothing, found_unsound, found_order}
use Rattle.apply_theorems.specs.Earns.{named_comes, one_of, last, step_number}
use Rattle.ask_theorems.specs.Statements.{OrderExactly, CountExactly}
use Rattle.ask_theorems.specs.Books.{exactly_in}

-- ---- the order question: 14, 10, 13

-- what a search comes to, as a verdict that has the answer's number
abbrev asking : Seen → Verdict
asking unseen = refuse NoOrder
asking (something None) = refuse Book
asking (something (Some o)) = pass

asking_number : (z : Seen) → step_number (step_of (asking z)) ≡ account_number (accounted z)
asking_number unseen = refl
asking_number (something None) = refl
asking_number (something (Some o)) = refl

pub order_exactly : (b : List ℕ) (r : ℕ) → OrderExactly b r
unfolding order_asked
order_exactly b r =
    let k = words_of (length b) in
    exactly_in account_number b
    (λ k. first (IsLive b k r → ⊥) 10 (first (Broken b k r) 13 done))
    (Err Shape) (accounted (seen_in b k (find b k r))) refl
    (λ k. one_of (one_of last))
    (subst (first (IsLive b k r → ⊥) 10 (first (Broken b k r) 13 done)) (asking_number (seen_in b k (find b k r)))
    (named_comes {rest = done} asking refl refl (sight b k r) (λ o i. record { number = refl })).number)

-- the answer for a reference whose slot is sound
pub order_means : (b : List ℕ) (k r : ℕ) (o : Order) → BookLength (length b) k → IsOrder b k r o → order_asked b r ≡ Ok (account_of o)
unfolding order_asked
order_means b k r o z i = rw (length_words z) (rw (ne_eqb k 0 (λ e. omega (arith, z.some))) (go (sight b k r)))
  where
    go : {s : ℕ} {x : Seen} → Sight b k r s x → accounted x ≡ Ok (account_of o)
    go (found_nothing n) = absurd (n (lowest-live i.lowest))
    go (found_unsound s w e) = absurd (order_sound i (record { slot = s; lowest = w; unsound = e }))
    go (found_order s o' w e) =
        ap (λ (y : Order). Ok (account_of y)) (order_unique (record { slot = s; lowest = w; sound = e }) i)

-- ---- the live count: 14

pub count_exactly : (b : List ℕ) → CountExactly b
unfolding count_asked
count_exactly b =
    exactly_in count_number b (λ k. done) (Err Shape) (Ok (live_count b (words_of (length b)))) refl
    (λ k. last) refl
