-- What the tests of both shapes say of making tables fresh. Assumes nothing.
use Rattle.refusals.specs.declared.Refusal.TheVariants.{Shape}
use Rattle.std.specs.Prelude.{◌≡◌, true, false, List, ℕ, ◌<◌, length, replicate, Result, Ok, Err}
use Rattle.std.proofs.Common.{lt-ltb}
use Rattle.laws.specs.Bools.{and-false}
use Rattle.book.specs.Book.{words_of}
use Rattle.directory.specs.Directory.{good_length}
use Rattle.fresh.specs.Fresh.{good_shapes, made_of, fresh_of, MakesFresh}
use Rattle.refusals.specs.declared.Refusal.{Refusal}

pub bad_directory : (d b : List ℕ) → good_length (length d) ≡ false → good_shapes d b ≡ false
unfolding good_shapes
bad_directory d b e = rw e

pub bad_book : (d b : List ℕ) → words_of (length b) ≡ 0 → good_shapes d b ≡ false
unfolding good_shapes
bad_book d b e = rw e (and-false (good_length (length d)))

pub good_both : (d b : List ℕ) → good_length (length d) ≡ true → 0 < words_of (length b) → good_shapes d b ≡ true
unfolding good_shapes
good_both d b e l = rw (e, lt-ltb 0 (words_of (length b)) l)

pub comes_refused : (d b : List ℕ) {r : Result (Unit {0}) Refusal} → good_shapes d b ≡ false → r ≡ Err Shape → MakesFresh d b d b r
unfolding made_of fresh_of
comes_refused d b e f = record { made = rw e f; directory = rw e; book = rw e }

pub comes_fresh : (d b : List ℕ) {d' b' : List ℕ} → good_shapes d b ≡ true → d' ≡ replicate (length d) 0 → b' ≡ replicate (length b) 0 → MakesFresh d b d' b' (Ok tt)
unfolding made_of fresh_of
comes_fresh d b e f g = record { made = rw e; directory = rw e f; book = rw e g }
