-- The directory as numbers (01, 'The tables the desk lends'): number i holds the symbol of locate i, or 0 if it is unregistered;
-- number 0 is never used. Assumes nothing.
use Rattle.std.specs.Prelude.{ℕ, ◌≤◌, Bool, false, cond, ◌&&◌, List, eqb, leb, ltb, length, get_or, set, Option, Some, None}

-- the most numbers that a directory may have
unfoldable pub most_numbers : ℕ
most_numbers = 8192

-- a directory may have n numbers
pub record DirectoryLength (n : ℕ) : Type 0 where
  pub least : 2 ≤ n
  pub most : n ≤ most_numbers

-- the same as a test
unfoldable pub good_length : ℕ → Bool
good_length n = leb 2 n && leb n most_numbers

-- what stands at a locate: nothing where it is 0 or beyond the directory, else its symbol, 0 where none is registered
unfoldable pub entry_at : List ℕ → ℕ → Option ℕ
entry_at d l = cond (leb 1 l && ltb l (length d)) (Some (get_or d l 0)) None

-- number 0, which is no locate's
unfoldable pub unused_of : List ℕ → ℕ
unused_of d = get_or d 0 0

-- what stands at a locate is this symbol
abbrev pub is_symbol : ℕ → Option ℕ → Bool
is_symbol symbol None = false
is_symbol symbol (Some n) = eqb n symbol

-- the directory with a symbol registered
unfoldable pub registered : List ℕ → ℕ → ℕ → List ℕ
registered d l symbol = set d l symbol
