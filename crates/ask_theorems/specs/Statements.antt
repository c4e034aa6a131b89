-- What holds of the desk's questions, in 01's words ('What the desk may ask'): when each number is given, and what the answers say.
-- Exactly.antt and Quotes.antt prove it of the definitions. Assumes nothing.
use Rattle.std.specs.Prelude.{◌≡◌, ◌↔◌, ◌≢◌, Bool, true, ◌&&◌, List, ℕ, ◌*◌, ◌<◌, length, Option, Result, Some, None, Ok}
use Rattle.kinds.specs.declared.Side.{Side}
use Rattle.kinds.specs.Sides.{side_of}
use Rattle.book.specs.Book.{BookLength, live}
use Rattle.slots.specs.Stored.{held_at}
use Rattle.accounts.specs.Accounts.{order_asked}
use Rattle.census.specs.Census.{count_asked}
use Rattle.levels.specs.declared.Level.{Level}
use Rattle.levels.specs.Totals.{total}
use Rattle.levels.specs.Levels.{shares_at, orders_at, all_prices, better, level_of, best_of, next_of}
use Rattle.replies.specs.Replies.{account_number, quote_number, count_number}
use Rattle.apply_theorems.specs.Statements.{IsLive, Broken, first, done}
use Rattle.refusals.specs.declared.Refusal.{Refusal}

-- no k makes it a book
abbrev pub Unbooked : List ℕ → Type 0
Unbooked b = (k : ℕ) → BookLength (length b) k → ⊥

-- 14 for what is no book; else what the book's checks say
abbrev pub in_book : List ℕ → (ℕ → ℕ → Type 0) → ℕ → Type 0
in_book b checks = first (Unbooked b) 14 (λ n. (k : ℕ) × BookLength (length b) k × checks k n)

-- a live slot of the whole book is unsound
pub record Foul (b : List ℕ) (k : ℕ) : Type 0 where
  pub slot : ℕ
  pub inside : slot < 64 * k
  pub alive : live b slot ≡ 1
  pub unsound : held_at b k slot ≡ None

-- the order question: 14, 10, 13
abbrev pub OrderExactly : List ℕ → ℕ → Type 0
OrderExactly b r =
    (n : ℕ) → account_number (order_asked b r) ≡ n ↔ in_book b (λ k. first (IsLive b k r → ⊥) 10 (first (Broken b k r) 13 done)) n

-- the questions about levels: 14, 4, 13
abbrev pub QuoteExactly : List ℕ → ℕ → Result (Option Level) Refusal → Type 0
QuoteExactly b byte q =
    (n : ℕ) → quote_number q ≡ n ↔ in_book b (λ k. first ((byte ≢ 66) × (byte ≢ 83)) 4 (first (Foul b k) 13 done)) n

-- the live count: 14
abbrev pub CountExactly : List ℕ → Type 0
CountExactly b = (n : ℕ) → count_number (count_asked b) ≡ n ↔ in_book b (λ k. done) n

-- the level of price p: its shares and orders are what stands there, 0 and 0 where none does
pub record LevelOf (b : List ℕ) (k locate : ℕ) (side : Side) (p : ℕ) (l : Level) : Type 0 where
  pub price : l.price ≡ p
  pub shares : l.shares ≡ total (shares_at locate side p) b k
  pub orders : l.orders ≡ total (orders_at locate side p) b k

-- what a level given for a price says: it is the level of that price; and none is no answer
pub record LevelMeans (b : List ℕ) (k locate byte price : ℕ) : Type 0 where
  pub stands : (l : Level) → level_of b locate byte price ≡ (Ok (Some l)) → LevelOf b k locate (side_of byte) price l
  pub some : level_of b locate byte price ≢ (Ok None)

-- a level that stands on a stock's side: its shares and orders are what stands there, and it is not empty
pub record IsLevel (b : List ℕ) (k locate : ℕ) (side : Side) (l : Level) : Type 0 where
  pub shares : l.shares ≡ total (shares_at locate side l.price) b k
  pub orders : l.orders ≡ total (orders_at locate side l.price) b k
  pub some : 0 < l.orders

-- no order of the stock's side stands at a price that passes
abbrev pub NoneWhere : List ℕ → ℕ → ℕ → Side → (ℕ → Bool) → Type 0
NoneWhere b k locate side passes = (p : ℕ) → p < all_prices → passes p ≡ true → total (orders_at locate side p) b k ≡ 0

-- what a level given as the best says: it stands, and none stands at a better price; and none: none stands at any price
pub record BestMeans (b : List ℕ) (k locate byte : ℕ) : Type 0 where
  pub stands : (l : Level) → best_of b locate byte ≡ Ok (Some l)
      → IsLevel b k locate (side_of byte) l × NoneWhere b k locate (side_of byte) (λ p. better (side_of byte) p l.price)
  pub none : best_of b locate byte ≡ (Ok None) → NoneWhere b k locate (side_of byte) (λ p. true)

-- what a level given as the next says: it stands at a worse price than the given one, and none stands between
pub record NextMeans (b : List ℕ) (k locate byte price : ℕ) : Type 0 where
  pub stands : (l : Level) → next_of b locate byte price ≡ Ok (Some l)
      → IsLevel b k locate (side_of byte) l × (better (side_of byte) price l.price ≡ true)
      × NoneWhere b k locate (side_of byte) (λ p. better (side_of byte) price p && better (side_of byte) p l.price)
  pub none : next_of b locate byte price ≡ (Ok None) → NoneWhere b k locate (side_of byte) (better (side_of byte) price)
