-- THE DEFINITION of the live count (01, 'What the desk may ask'): how many slots are live, unsound ones too; or 14. Assumes nothing.
use Rattle.refusals.specs.declared.Refusal.TheVariants.{Shape}
use Rattle.std.specs.Prelude.{ℕ, ◌*◌, cond, List, eqb, length, Result, Ok, Err}
use Rattle.laws.specs.Definitions.{sum_to}
use Rattle.book.specs.Book.{live, words_of}
use Rattle.refusals.specs.declared.Refusal.{Refusal}

-- the live slots: a live one counts 1, a free one 0
unfoldable pub live_count : List ℕ → ℕ → ℕ
live_count b k = sum_to (live b) (64 * k)

unfoldable pub count_asked : List ℕ → Result ℕ Refusal
count_asked b = cond (eqb (words_of (length b)) 0) (Err Shape) (Ok (live_count b (words_of (length b))))
