-- What `good_shapes` tests: the tables have the shape that 01 names exactly where it passes, and the book's map numbers are then
-- `words_of` its length. Assumes nothing.
use Rattle.std.specs.Prelude.{◌≡◌, ◌↔◌, true, List, ℕ, ltb, length}
use Rattle.std.proofs.Common.{sym, ◌∙◌, arith, ltb-true}
use Rattle.laws.specs.Bools.{and_left, and_right}
use Rattle.directory.specs.Directory.{good_length}
use Rattle.directory.specs.DirectoryLaws.{length_means}
use Rattle.book.specs.Book.{words_of}
use Rattle.book.specs.Shape.{length_words, words_length}
use Rattle.fresh.specs.Fresh.{good_shapes}
use Rattle.fresh.specs.FreshLaws.{good_both}
use Rattle.apply_theorems.specs.Statements.{Shaped}

-- the map numbers of a book of good shape
pub shaped_words : {d b : List ℕ} {k : ℕ} → Shaped d b k → words_of (length b) ≡ k
shaped_words z = length_words z.book

pub shaped_unique : {d b : List ℕ} {k k' : ℕ} → Shaped d b k → Shaped d b k' → k ≡ k'
shaped_unique z z' = sym (shaped_words z) ∙ shaped_words z'

pub shaped_good : {d b : List ℕ} {k : ℕ} → Shaped d b k → good_shapes d b ≡ true
shaped_good {d} {b} z = good_both d b ((length_means (length d)).1 z.directory) (omega (arith, shaped_words z, z.book.some))

pub good_shaped : (d b : List ℕ) → good_shapes d b ≡ true → Shaped d b (words_of (length b))
unfolding good_shapes
good_shaped d b e =
    let some = ltb-true 0 (words_of (length b)) (and_right (good_length (length d)) (ltb 0 (words_of (length b))) e) in
    record {
      directory = (length_means (length d)).0 (and_left (good_length (length d)) (ltb 0 (words_of (length b))) e);
      book = words_length (length b) (λ z. omega arith);
    }

-- SHAPE is not earned exactly where the tables have a shape that 01 names
pub shapes_mean : (d b : List ℕ) → good_shapes d b ≡ true ↔ (k : ℕ) × Shaped d b k
shapes_mean d b = (λ e. (words_of (length b), good_shaped d b e), λ z. shaped_good z.1)
