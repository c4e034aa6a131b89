-- THE DEFINITION of the order question (01, 'What the desk may ask'): 14, 10, 13, or the account of the order with a reference.
-- Assumes nothing.
use Rattle.refusals.specs.declared.Refusal.TheVariants.{Book, NoOrder, Shape}
use Rattle.std.specs.Prelude.{ℕ, cond, List, eqb, length, Result, Some, None, Ok, Err}
use Rattle.book.specs.Book.{find, words_of}
use Rattle.orders.specs.declared.Order.{Order}
use Rattle.orders.specs.Order.{remaining}
use Rattle.decide.specs.Decide.{Seen, unseen, something}
use Rattle.slots.specs.Stored.{seen_in}
use Rattle.accounts.specs.declared.Account.{Account}
use Rattle.refusals.specs.declared.Refusal.{Refusal}

abbrev pub account_of : Order → Account
account_of o = record {
  added = o.added;
  executed = o.executed;
  cancelled = o.cancelled;
  remaining = remaining o;
  locate = o.locate;
  side = o.side;
  price = o.price;
  attribution = o.attribution;
}

-- 10 where the reference is not live, 13 where its slot is unsound
abbrev pub accounted : Seen → Result Account Refusal
accounted unseen = Err NoOrder
accounted (something None) = Err Book
accounted (something (Some o)) = Ok (account_of o)

unfoldable pub order_asked : List ℕ → ℕ → Result Account Refusal
order_asked b reference =
    cond (eqb (words_of (length b)) 0) (Err Shape)
    (accounted (seen_in b (words_of (length b)) (find b (words_of (length b)) reference)))
