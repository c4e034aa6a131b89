-- WHAT IS PROMISED over any run of messages, good and bad, from tables made fresh: conservation by order and by level, tables that we
-- never damage, books that agree. The other files prove it. Assumes nothing.
use Rattle.std.specs.Prelude.{◌≡◌, true, ◌≢◌, ℕ, ◌+◌, ◌*◌, ◌<◌, length, Option, Result, Some, None, Ok, Err}
use mathlib.Core.List.{List, Memᴰ as Among}
use Rattle.kinds.specs.declared.Side.{Side}
use Rattle.kinds.specs.Sides.{side_byte}
use Rattle.directory.specs.Directory.{DirectoryLength, unused_of, entry_at}
use Rattle.book.specs.Book.{BookLength, live, number_at}
use Rattle.orders.specs.declared.Order.{Order}
use Rattle.slots.specs.Stored.{held_at}
use Rattle.apply.specs.Apply.{number_of}
use Rattle.apply.specs.Runs.{Tables, Said, made, fresh_tables, tables_after, answer_to, reached, said}
use Rattle.accounts.specs.Accounts.{order_asked}
use Rattle.census.specs.Census.{count_asked}
use Rattle.levels.specs.Levels.{level_of, best_of, next_of}
use Rattle.levels.specs.Totals.{total}
use Rattle.replies.specs.Replies.{account_number, quote_number, count_number}
use Rattle.fresh.specs.Fresh.{made_number, made_of}
use Rattle.moves.specs.Lawful.{Bytes}
use Rattle.runs.specs.Ledger.{Line, no_life, life, lines_of, ledger, of_level, put, taken}
use Rattle.accounts.specs.declared.Account.{Account}
use Rattle.levels.specs.declared.Level.{Level}
use Rattle.refusals.specs.declared.Refusal.{Refusal}

-- any byte strings, in any order
abbrev pub Run : List (List ℕ) → Type 0
Run ss = (s : List ℕ) → Among s ss → Bytes s

-- fresh tables of good shapes: a directory of n numbers, a book of 257 k
pub record Start (n k : ℕ) : Type 0 where
  pub directory : DirectoryLength n
  pub book : BookLength (257 * k) k

abbrev pub start_of : ℕ → ℕ → Tables
start_of n k = fresh_tables n (257 * k)

-- of tables of those lengths, whatever they held, the call to make them fresh answers 0 and leaves `start_of`
pub record MadeStart (n k : ℕ) (d b : List ℕ) : Type 0 where
  pub number : made_number (made_of d b) ≡ 0
  pub tables : made d b ≡ start_of n k

-- ---- 1. by order

-- what the order question shows: what remains, 0 where no order is live
abbrev pub remains_shown : Result Account Refusal → ℕ
remains_shown (Err r) = 0
remains_shown (Ok a) = a.remaining

-- shares added = executed + cancelled + reported as closed + shown
abbrev pub ByOrder : ℕ → ℕ → List (List ℕ) → ℕ → Type 0
ByOrder n k ss r =
    let a = life r (ledger (said (start_of n k) ss)) no_life in
    a.added ≡ a.executed + a.cancelled + a.closed + remains_shown (order_asked (reached (start_of n k) ss).book r)

-- ---- 2. by level

-- what the level question shows
abbrev pub shares_shown : Result (Option Level) Refusal → ℕ
shares_shown (Err r) = 0
shares_shown (Ok None) = 0
shares_shown (Ok (Some l)) = l.shares

-- what was put there = what was taken away + the total shown
abbrev pub ByLevel : ℕ → ℕ → List (List ℕ) → ℕ → Side → ℕ → Type 0
ByLevel n k ss l side p =
    let xs = ledger (said (start_of n k) ss) in
    put l side p xs ≡ taken l side p xs + shares_shown (level_of (reached (start_of n k) ss).book l (side_byte side) p)

-- ---- 3. no table damage by us

-- a slot's four numbers are 0
abbrev pub Zero : List ℕ → ℕ → ℕ → Type 0
Zero b k s = (i : ℕ) → i < 4 → number_at b k s i ≡ 0

-- an order's stock is registered
pub record Listed (d : List ℕ) (l : ℕ) : Type 0 where
  pub symbol : ℕ
  pub entry : entry_at d l ≡ Some symbol
  pub some : symbol ≢ 0

pub record Healthy (n k : ℕ) (t : Tables) : Type 0 where
  pub directory_length : length t.directory ≡ n
  pub book_length : length t.book ≡ 257 * k
  -- number 0 of the directory is 0
  pub nought : unused_of t.directory ≡ 0
  -- live slots are sound, and their stocks registered
  pub sound : (s : ℕ) → s < 64 * k → live t.book s ≡ 1 → (o : Order) × (held_at t.book k s ≡ Some o) × Listed t.directory o.locate.0
  -- references of live slots are all different
  pub apart : (s u : ℕ) → s < 64 * k → u < 64 * k → live t.book s ≡ 1 → live t.book u ≡ 1 → number_at t.book k s 0 ≡ number_at t.book k u 0 → s ≡ u
  -- free slots are zero
  pub free : (s : ℕ) → s < 64 * k → live t.book s ≡ 0 → Zero t.book k s

-- neither BOOK nor SHAPE
abbrev pub NoDamage : ℕ → Type 0
NoDamage number = (number ≢ 13) × (number ≢ 14)

-- after any run 13 and 14 are given to no message and to no question
pub record NeverDamaged (n k : ℕ) (ss : List (List ℕ)) : Type 0 where
  pub healthy : Healthy n k (reached (start_of n k) ss)
  pub message : (s : List ℕ) → NoDamage (number_of (answer_to (reached (start_of n k) ss) s))
  pub order : (r : ℕ) → NoDamage (account_number (order_asked (reached (start_of n k) ss).book r))
  pub level : (l byte p : ℕ) → NoDamage (quote_number (level_of (reached (start_of n k) ss).book l byte p))
  pub best : (l byte : ℕ) → NoDamage (quote_number (best_of (reached (start_of n k) ss).book l byte))
  pub next : (l byte p : ℕ) → NoDamage (quote_number (next_of (reached (start_of n k) ss).book l byte p))
  pub count : NoDamage (count_number (count_asked (reached (start_of n k) ss).book))

-- ---- 4. slots do not show

-- the same orders, in whatever slots, of books that may differ in size: every weight has the same total
abbrev pub SameOrders : List ℕ → ℕ → List ℕ → ℕ → Type 0
SameOrders b k c m = (w : Option Order → ℕ) → total w b k ≡ total w c m

-- tables with the same directory and the same orders
pub record Alike (n k m : ℕ) (t u : Tables) : Type 0 where
  pub directory : t.directory ≡ u.directory
  pub first : Healthy n k t
  pub second : Healthy n m u
  pub orders : SameOrders t.book k u.book m

-- all questions are answered alike
pub record AskedAlike (b c : List ℕ) : Type 0 where
  pub order : (r : ℕ) → order_asked b r ≡ order_asked c r
  pub level : (l byte p : ℕ) → level_of b l byte p ≡ level_of c l byte p
  pub best : (l byte : ℕ) → best_of b l byte ≡ best_of c l byte
  pub next : (l byte p : ℕ) → next_of b l byte p ≡ next_of c l byte p
  pub count : count_asked b ≡ count_asked c

-- a message gives the same answer, and leaves alike what was alike
pub record StepsAlike (n k m : ℕ) (t u : Tables) (s : List ℕ) : Type 0 where
  pub answer : answer_to t s ≡ answer_to u s
  pub tables : Alike n k m (tables_after t s) (tables_after u s)

-- neither answers FULL
abbrev pub BothRoom : Tables → Tables → List ℕ → Type 0
BothRoom t u s = (number_of (answer_to t s) ≢ 12) × (number_of (answer_to u s) ≢ 12)

-- ---- 5. books agree

-- two tasks whose tables had the same lengths and whose first was made fresh, with 0: so was the second; and lent the same messages they
-- say the same answers and hold equal tables
pub record TasksAgree (d b d' b' : List ℕ) (ss : List (List ℕ)) : Type 0 where
  pub number : made_number (made_of d' b') ≡ 0
  pub answers : said (made d b) ss ≡ said (made d' b') ss
  pub tables : reached (made d b) ss ≡ reached (made d' b') ss

-- no answer of a run was FULL
abbrev pub NeverFull : List Said → Type 0
NeverFull xs = (x : Said) → Among x xs → number_of x.outcome ≢ 12

-- two tasks whose books differ in size, made fresh and lent the same messages
pub record Agree (n k m : ℕ) (ss : List (List ℕ)) : Type 0 where
  pub answers : said (start_of n k) ss ≡ said (start_of n m) ss
  pub tables : Alike n k m (reached (start_of n k) ss) (reached (start_of n m) ss)
  pub questions : AskedAlike (reached (start_of n k) ss).book (reached (start_of n m) ss).book

-- ---- 6. only its own

-- a line of the ledger is about this level
abbrev pub Touches : ℕ → Side → ℕ → List Line → Type 0
Touches l side p xs = (x : Line) × Among x xs × (of_level l side p x.figures ≡ true)

-- a line of the ledger is about this order
abbrev pub Concerns : ℕ → List Line → Type 0
Concerns r xs = (x : Line) × Among x xs × (x.reference ≡ r)

-- every other order's account and every other level is as before
pub record OnlyItsOwn (t : Tables) (s : List ℕ) : Type 0 where
  pub accounts : (r : ℕ) → (Concerns r (lines_of (answer_to t s)) → ⊥) → order_asked (tables_after t s).book r ≡ order_asked t.book r
  pub levels : (l : ℕ) (side : Side) (p : ℕ) → (Touches l side p (lines_of (answer_to t s)) → ⊥)
      → level_of (tables_after t s).book l (side_byte side) p ≡ level_of t.book l (side_byte side) p
