-- Tables made fresh (01, 'The tables the desk lends'): both all zero, or 14 and both as they were. Assumes nothing.
use Rattle.refusals.specs.declared.Refusal.TheVariants.{Shape}
use Rattle.std.specs.Prelude.{ℕ, ◌≡◌, Bool, cond, ◌&&◌, List, ltb, length, replicate, Result, Ok, Err}
use Rattle.refusals.specs.Refusals.{SHAPE, refusal_number}
use Rattle.book.specs.Book.{words_of}
use Rattle.directory.specs.Directory.{good_length}
use Rattle.refusals.specs.declared.Refusal.{Refusal}

-- SHAPE: both tables have lengths that 01 names
unfoldable pub good_shapes : List ℕ → List ℕ → Bool
good_shapes d b = good_length (length d) && ltb 0 (words_of (length b))

-- 01's number of what making tables fresh came to
abbrev pub made_number : Result (Unit {0}) Refusal → ℕ
made_number (Ok tt) = 0
made_number (Err r) = refusal_number r

unfoldable pub made_of : List ℕ → List ℕ → Result (Unit {0}) Refusal
made_of d b = cond (good_shapes d b) (Ok tt) (Err Shape)

-- a table t of the pair after the call
unfoldable pub fresh_of : List ℕ → List ℕ → List ℕ → List ℕ
fresh_of d b t = cond (good_shapes d b) (replicate (length t) 0) t

-- what the call comes to, of the tables d and b
pub record MakesFresh (d b d' b' : List ℕ) (r : Result (Unit {0}) Refusal) : Type 0 where
  pub made : r ≡ made_of d b
  pub directory : d' ≡ fresh_of d b d
  pub book : b' ≡ fresh_of d b b
