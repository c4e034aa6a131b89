-- The book as numbers (01, 'The tables the desk lends'): k map numbers, then four numbers a slot, for 64 k slots. Slot s is live
-- when bit s mod 64 of number s / 64 is 1. The order with a given reference is the lowest live slot holding it, whatever the
-- book contains; a new order takes the lowest free slot. Assumes nothing.
use Rattle.std.specs.Prelude.{ℕ, ◌+◌, ◌*◌, ◌/◌, ◌%◌, ◌≤◌, ◌≡◌, Bool, cond, ◌&&◌, List, eqb, leb, ltb, get_or, set, Option, Some, None}
use Rattle.laws.specs.Definitions.{bit, set_bit, clear_bit, least}
use Rattle.kinds.specs.declared.Slot.{Slot}

-- ---- shape

-- the most map numbers that a book may have
unfoldable pub most_words : ℕ
most_words = 64

-- a book of n numbers has k map numbers
pub record BookLength (n k : ℕ) : Type 0 where
  pub some : 1 ≤ k
  pub few : k ≤ most_words
  pub size : n ≡ 257 * k

-- how many map numbers a book of n numbers has; 0 where n is no book's length
unfoldable pub words_of : ℕ → ℕ
unfolding most_words
words_of n = cond (eqb (n % 257) 0 && leb (n / 257) most_words) (n / 257) 0

-- ---- the map and the slots

-- slot s's bit: 1 live, 0 free
unfoldable pub live : List ℕ → ℕ → ℕ
live b s = bit (get_or b (s / 64) 0) (s % 64)

-- number i of slot s
unfoldable pub number_at : List ℕ → ℕ → ℕ → ℕ → ℕ
number_at b k s i = get_or b (k + 4 * s + i) 0

-- slot s is live and holds the reference r
unfoldable pub holds : List ℕ → ℕ → ℕ → ℕ → Bool
holds b k r s = eqb (live b s) 1 && eqb (number_at b k s 0) r

unfoldable pub is_free : List ℕ → ℕ → Bool
is_free b s = eqb (live b s) 0

-- a search's number as its answer: the slot, or none
unfoldable pub found_below : ℕ → ℕ → Option Slot
found_below n s = cond (ltb s n) (Some (record { 0 = s })) None

-- the lowest live slot that holds r
unfoldable pub find : List ℕ → ℕ → ℕ → Option Slot
find b k r = found_below (64 * k) (least (holds b k r) (64 * k))

-- the lowest free slot
unfoldable pub lowest_free : List ℕ → ℕ → Option Slot
lowest_free b k = found_below (64 * k) (least (is_free b) (64 * k))

-- ---- what is stored

-- four numbers from place a on
unfoldable pub four : List ℕ → ℕ → ℕ → ℕ → ℕ → ℕ → List ℕ
four b a n0 n1 n2 n3 = set (set (set (set b a n0) (a + 1) n1) (a + 2) n2) (a + 3) n3

-- slot s live with these numbers
unfoldable pub put_slot : List ℕ → ℕ → ℕ → ℕ → ℕ → ℕ → ℕ → List ℕ
put_slot b k s n0 n1 n2 n3 = four (set b (s / 64) (set_bit (get_or b (s / 64) 0) (s % 64))) (k + 4 * s) n0 n1 n2 n3

-- slot s free, its numbers zero
unfoldable pub clear_slot : List ℕ → ℕ → ℕ → List ℕ
clear_slot b k s = four (set b (s / 64) (clear_bit (get_or b (s / 64) 0) (s % 64))) (k + 4 * s) 0 0 0 0
