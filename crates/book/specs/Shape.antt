-- What a book's length says of its map numbers: 257 k numbers are k map numbers and 64 k slots of four. Assumes nothing.
use Rattle.std.specs.Prelude.{◌≡◌, refl, Bool, true, false, cond, ◌&&◌, List, ◌≢◌, ℕ, ◌*◌, ◌/◌, ◌%◌, ◌≤◌, ◌<◌, eqb, length}
use Rattle.std.proofs.Common.{◌∙◌, ⊎_elim, arith, eq-eqb, ne_eqb, le-leb}
use Rattle.std.proofs.lemmas.Bool.{lt-leb}
use Rattle.laws.specs.Least.{same_or, lt-or-le}
use Rattle.book.specs.Book.{most_words, BookLength, words_of}

-- b has k map numbers, and k is small enough that no place in b overflows
pub record Sized (b : List ℕ) (k : ℕ) : Type 0 where
  pub size : length b ≡ 257 * k
  pub most : k ≤ 1024

-- every book's are
pub most_words_lem : most_words ≤ 1024
unfolding most_words
most_words_lem = omega arith

-- ---- the three answers of `words_of`

pub words_whole : (n : ℕ) → n % 257 ≡ 0 → n / 257 ≤ most_words → words_of n ≡ n / 257
unfolding words_of
words_whole n e l = rw (eq-eqb _ _ e, le-leb _ _ l)

pub words_odd : (n : ℕ) → n % 257 ≢ 0 → words_of n ≡ 0
unfolding words_of
words_odd n e = rw (ne_eqb _ _ e)

pub words_many : (n : ℕ) → most_words < n / 257 → words_of n ≡ 0
unfolding words_of
words_many n l = rw (lt-leb _ _ l) (no_and (eqb (n % 257) 0))
  where
    no_and : (a : Bool) → cond (a && false) (n / 257) 0 ≡ 0
    no_and true = refl
    no_and false = refl

-- ---- for callers

-- a book's length gives its map numbers
pub length_words : {n k : ℕ} → BookLength n k → words_of n ≡ k
length_words {n} {k} z =
    let e = z.size in
    let w : n / 257 ≡ k = omega arith in
    words_whole n (omega arith) (omega (arith, z.few)) ∙ w

-- and any other gives none
pub words_length : (n : ℕ) → words_of n ≢ 0 → BookLength n (words_of n)
words_length n =
    ⊎_elim
    (λ (e : n % 257 ≡ 0). ⊎_elim
    (λ l. rw (words_many n l) (λ z. absurd (z refl)))
    (λ l. rw (words_whole n e l) (λ z. record { some = omega (arith, z); few = l; size = omega arith }))
    (lt-or-le most_words (n / 257)))
    (λ d. rw (words_odd n d) (λ z. absurd (z refl)))
    (same_or (n % 257) 0)

-- a book whose length gives k map numbers is sized for every function here
pub length_sized : {b : List ℕ} {k : ℕ} → BookLength (length b) k → Sized b k
length_sized z = let m = most_words_lem in let f = z.few in record { size = z.size; most = omega arith }

pub words_sized : (b : List ℕ) (k : ℕ) → words_of (length b) ≡ k → 0 < k → Sized b k
words_sized b k e l =
    let n = length b in
    ⊎_elim
    (λ (d : n % 257 ≡ 0). ⊎_elim
    (λ m. absurd (omega (arith, words_many n m)))
    (λ m. let w = words_whole n d m in let h = most_words_lem in record { size = omega arith; most = omega arith })
    (lt-or-le most_words (n / 257)))
    (λ d. absurd (omega (arith, words_odd n d)))
    (same_or (n % 257) 0)
