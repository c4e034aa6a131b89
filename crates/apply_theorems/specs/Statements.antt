-- What holds of a call of apply, in 01's words ('When the book says no'): when each number is given, that a refused call changes
-- nothing, and what an accepted one touches. Exactly.antt and Touched.antt prove it of `applied`. Assumes nothing.
use Rattle.std.specs.Prelude.{◌≡◌, ◌↔◌, ◌⊎◌, ◌≢◌, List, ℕ, ◌*◌, ◌<◌, length, Some, None, Ok}
use Rattle.messages.specs.declared.Message.{Message}
use Rattle.directory.specs.Directory.{DirectoryLength, entry_at, unused_of}
use Rattle.book.specs.Book.{BookLength, live, number_at, lowest_free, clear_slot}
use Rattle.orders.specs.declared.Order.{Order}
use Rattle.orders.specs.Order.{remaining}
use Rattle.reader.specs.Read.{answer}
use Rattle.slots.specs.Stored.{held_at}
use Rattle.numbers.specs.Shown.{answer_number}
use Rattle.steps.specs.Asked.{Asked, register, start, take, close, replace, nothing, asked}
use Rattle.apply.specs.Apply.{applied, number_of}

-- ---- what the checks ask of the tables

-- SHAPE: a directory and a book of good lengths, the book with k map numbers
pub record Shaped (d b : List ℕ) (k : ℕ) : Type 0 where
  pub directory : DirectoryLength (length d)
  pub book : BookLength (length b) k

-- locate 0, or beyond the directory
abbrev pub Outside : List ℕ → ℕ → Type 0
Outside d l = entry_at d l ≡ None

-- that, or unregistered
abbrev pub Unlisted : List ℕ → ℕ → Type 0
Unlisted d l = Outside d l ⊎ (entry_at d l ≡ Some 0)

-- another symbol is registered
pub record Another (d : List ℕ) (l symbol : ℕ) : Type 0 where
  pub other : ℕ
  pub stands : entry_at d l ≡ Some other
  pub some : other ≢ 0
  pub differs : other ≢ symbol

-- slot s is the lowest live one that holds the reference r
pub record Lowest (b : List ℕ) (k r s : ℕ) : Type 0 where
  pub inside : s < 64 * k
  pub alive : live b s ≡ 1
  pub holding : number_at b k s 0 ≡ r
  pub before : (i : ℕ) → i < s → live b i ≡ 1 → number_at b k i 0 ≡ r → ⊥

-- the reference r is live
pub record IsLive (b : List ℕ) (k r : ℕ) : Type 0 where
  pub slot : ℕ
  pub inside : slot < 64 * k
  pub alive : live b slot ≡ 1
  pub holding : number_at b k slot 0 ≡ r

-- no slot is free
abbrev pub Full : List ℕ → ℕ → Type 0
Full b k = (i : ℕ) → i < 64 * k → live b i ≢ 0

-- the slot concerned is live and unsound
pub record Broken (b : List ℕ) (k r : ℕ) : Type 0 where
  pub slot : ℕ
  pub lowest : Lowest b k r slot
  pub unsound : held_at b k slot ≡ None

-- o is the order with the reference r, in a sound slot
pub record IsOrder (b : List ℕ) (k r : ℕ) (o : Order) : Type 0 where
  pub slot : ℕ
  pub lowest : Lowest b k r slot
  pub sound : held_at b k slot ≡ Some o

-- the locate differs from the order's
pub record Elsewhere (b : List ℕ) (k r l : ℕ) : Type 0 where
  pub order : Order
  pub is : IsOrder b k r order
  pub differs : order.locate.0 ≢ l

-- shares above remaining
pub record Over (b : List ℕ) (k r n : ℕ) : Type 0 where
  pub order : Order
  pub is : IsOrder b k r order
  pub above : remaining order < n

-- ---- the order of the checks

-- the number c where P holds, else what comes next says which
abbrev pub first : Type 0 → ℕ → (ℕ → Type 0) → ℕ → Type 0
first P c rest n = (P × (n ≡ c)) ⊎ ((P → ⊥) × rest n)

abbrev pub done : ℕ → Type 0
done n = n ≡ 0

-- n is what 01 gives for what is asked: R 7, 8; A and F 7, 8, 9, 12; E, C, X 10, 13, 8, 11; D 10, 13, 8; U 10, 13, 8, 9
abbrev pub Earned : List ℕ → List ℕ → ℕ → Asked → ℕ → Type 0
Earned d b k (register l symbol) = first (Outside d l) 7 (first (Another d l symbol) 8 done)
Earned d b k (start o symbol) =
    first (Unlisted d o.locate.0) 7
    (first (Another d o.locate.0 symbol) 8 (first (IsLive b k o.reference.0) 9 (first (Full b k) 12 done)))
Earned d b k (take how r l n) =
    first (IsLive b k r → ⊥) 10 (first (Broken b k r) 13 (first (Elsewhere b k r l) 8 (first (Over b k r n) 11 done)))
Earned d b k (close r l) = first (IsLive b k r → ⊥) 10 (first (Broken b k r) 13 (first (Elsewhere b k r l) 8 done))
Earned d b k (replace original new l n p) =
    first (IsLive b k original → ⊥) 10
    (first (Broken b k original) 13
    (first (Elsewhere b k original l) 8 (first (IsLive b k new ⊎ (new ≡ original)) 9 done)))
Earned d b k nothing = done

-- the number of a message that was read
pub record Judged (d b s : List ℕ) (k n : ℕ) : Type 0 where
  pub message : Message
  pub read : answer s ≡ Ok message
  pub earned : Earned d b k (asked message) n

-- SHAPE; then the refusals of reading; then those of what is asked
abbrev pub Given : List ℕ → List ℕ → List ℕ → ℕ → Type 0
Given d b s n =
    ((((k : ℕ) → Shaped d b k → ⊥)) × (n ≡ 14))
    ⊎ ((k : ℕ) × Shaped d b k × (((answer_number (answer s) ≡ n) × (n ≢ 0)) ⊎ Judged d b s k n))

-- each number is given exactly when 01 says so, whatever the tables and the bytes
abbrev pub ApplyExactly : List ℕ → List ℕ → List ℕ → Type 0
ApplyExactly d b s = (n : ℕ) → number_of (applied d b s).outcome ≡ n ↔ Given d b s n

-- ---- what is touched

-- a refused call changes nothing
pub record Unchanged (d b s : List ℕ) : Type 0 where
  pub directory : (applied d b s).directory ≡ d
  pub book : (applied d b s).book ≡ b

-- slot t is as it was: its bit and its four numbers
pub record SameSlot (b b' : List ℕ) (k t : ℕ) : Type 0 where
  pub bit : live b' t ≡ live b t
  pub numbers : (i : ℕ) → i < 4 → number_at b' k t i ≡ number_at b k t i

-- slot t is one that the message is about: that of an order it names, or the one that its new order takes
abbrev pub Own : List ℕ → ℕ → Asked → ℕ → Type 0
Own b k (register l symbol) t = ⊥
Own b k (start o symbol) t = lowest_free b k ≡ Some (record { 0 = t })
Own b k (take how r l n) t = Lowest b k r t
Own b k (close r l) t = Lowest b k r t
Own b k (replace original new l n p) t =
    Lowest b k original t ⊎ ((s : ℕ) × Lowest b k original s × (lowest_free (clear_slot b k s) k ≡ Some (record { 0 = t })))
Own b k nothing t = ⊥

-- the reference r is one that the message names
abbrev pub Names : Asked → ℕ → Type 0
Names (register l symbol) r = ⊥
Names (start o symbol) r = r ≡ o.reference.0
Names (take how named l n) r = r ≡ named
Names (close named l) r = r ≡ named
Names (replace original new l n p) r = (r ≡ original) ⊎ (r ≡ new)
Names nothing r = ⊥

-- the entry of locate m is the one that the message is about
abbrev pub OwnEntry : Asked → ℕ → Type 0
OwnEntry (register l symbol) m = m ≡ l
OwnEntry (start o symbol) m = ⊥
OwnEntry (take how r l n) m = ⊥
OwnEntry (close r l) m = ⊥
OwnEntry (replace original new l n p) m = ⊥
OwnEntry nothing m = ⊥

-- what a message that asks for a leaves of tables d and b, of which the book has k map numbers
pub record Only (d b : List ℕ) (k : ℕ) (a : Asked) (d' b' : List ℕ) : Type 0 where
  pub directory_length : length d' ≡ length d
  pub book_length : length b' ≡ length b
  pub unused : unused_of d' ≡ unused_of d
  pub entries : (m : ℕ) → (OwnEntry a m → ⊥) → entry_at d' m ≡ entry_at d m
  pub slots : (t : ℕ) → t < 64 * k → (Own b k a t → ⊥) → SameSlot b b' k t
