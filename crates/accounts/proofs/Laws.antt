-- The ways through the order question, over plain values. Assumes nothing.
use Rattle.refusals.specs.declared.Refusal.TheVariants.{Book, NoOrder, Shape}
use Rattle.std.specs.Prelude.{Result, Some, None, Ok, Err}
use Prim.Native.Nat.{ℕ}
use mathlib.Core.Path.{◌≡◌, sym, ap, ◌∙◌}
use mathlib.Core.List.{List}
use borrow.Author.Tests.{eq-eqb, ne_eqb}
use lib.ListN.{length}
use Rattle.kinds.specs.declared.Slot.{Slot}
use Rattle.book.specs.Book.{find, words_of}
use Rattle.orders.specs.declared.Order.{Order}
use Rattle.decide.specs.Decide.{something}
use Rattle.slots.specs.Stored.{held_at, seen_in}
use Rattle.accounts.specs.Accounts.{account_of, accounted, order_asked}
use Rattle.accounts.specs.declared.Account.{Account}
use Rattle.refusals.specs.declared.Refusal.{Refusal}

module _ (b : List ℕ) (r k : ℕ) (a : Result Account Refusal) where
  pub shapeless : k ≡ words_of (length b) → k ≡ 0 → a ≡ Err Shape → a ≡ order_asked b r
  unfolding order_asked
  shapeless w z e = rw (eq-eqb (words_of (length b)) 0 (sym w ∙ z)) e

  shaped : {x : Result Account Refusal} → k ≡ words_of (length b) → (k ≡ 0 → ⊥) → a ≡ x → accounted (seen_in b k (find b k r)) ≡ x → a ≡ order_asked b r
  unfolding order_asked
  shaped w z e f =
      rw (ne_eqb (words_of (length b)) 0 (λ q. z (w ∙ q)))
      (e ∙ sym f ∙ ap (λ (n : ℕ). accounted (seen_in b n (find b n r))) w)

  pub missing : k ≡ words_of (length b) → (k ≡ 0 → ⊥) → find b k r ≡ None → a ≡ Err NoOrder → a ≡ order_asked b r
  missing w z f e = shaped w z e (ap (λ x. accounted (seen_in b k x)) f)

  pub unsound : (s : Slot) → k ≡ words_of (length b) → (k ≡ 0 → ⊥) → find b k r ≡ Some s → held_at b k s.0 ≡ None
      → a ≡ Err Book → a ≡ order_asked b r
  unsound s w z f h e = shaped w z e (ap (λ x. accounted (seen_in b k x)) f ∙ ap (λ x. accounted (something x)) h)

  pub known : (s : Slot) (o : Order) → k ≡ words_of (length b) → (k ≡ 0 → ⊥) → find b k r ≡ Some s → held_at b k s.0 ≡ Some o
      → a ≡ Ok (account_of o) → a ≡ order_asked b r
  known s o w z f h e = shaped w z e (ap (λ x. accounted (seen_in b k x)) f ∙ ap (λ x. accounted (something x)) h)
