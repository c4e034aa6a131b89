-- What the levels that are given say, and what it says that none is: an answer that is no refusal is what the question asks for
-- (`unchecked`). Assumes nothing.
use Rattle.std.specs.Prelude.{◌≡◌, refl, Bool, true, false, List, ℕ, length, Option, Result, Some, None, Ok, Err}
use Rattle.std.proofs.Common.{ap, subst, ◌∙◌, true≢false, arith}
use Rattle.kinds.specs.Sides.{side_of}
use Rattle.book.specs.Book.{words_of, BookLength}
use Rattle.book.specs.Shape.{length_words}
use Rattle.levels.specs.Levels.{level_at, best_where, better, checked, level_of, best_of, next_of}
use Rattle.ask_theorems.specs.Statements.{LevelOf, LevelMeans, BestMeans, NextMeans}
use Rattle.ask_theorems.specs.Cases.{checked_has, Says, where_says}
use Rattle.levels.specs.declared.Level.{Level}
use Rattle.refusals.specs.declared.Refusal.{Refusal}

-- ---- an answer that is no refusal

abbrev refuses : Result (Option Level) Refusal → Bool
refuses (Err r) = true
refuses (Ok None) = false
refuses (Ok (Some l)) = false

-- is what the question asks for, in a book of k map numbers
unchecked : (b : List ℕ) {k : ℕ} (byte : ℕ) (q : ℕ → Result (Option Level) Refusal) (x : Result (Option Level) Refusal)
    → BookLength (length b) k → refuses x ≡ false → checked b byte (q (words_of (length b))) ≡ x → q k ≡ x
unchecked b byte q x z f e =
    rw (length_words z) at
    (checked_has (λ y. y ≡ x → q (words_of (length b)) ≡ x) b byte (q (words_of (length b)))
    (λ n d e. absurd (true≢false (ap refuses e ∙ f)))
    (λ e. e)
    e)

-- ---- the level of a price

pub level_means : (b : List ℕ) (k l byte p : ℕ) → BookLength (length b) k → LevelMeans b k l byte p
unfolding level_of level_at
level_means b k l byte p z =
    record {
      stands = λ x e.
          let q = unchecked b byte asks (Ok (Some x)) z refl e in
          let is : level_at b k l (side_of byte) p ≡ x = cc in
          subst (LevelOf b k l (side_of byte) p) is (record { price = refl; shares = refl; orders = refl });
      some = λ e. let q = unchecked b byte asks (Ok None) z refl e in let n : ◌≡◌ {A = ℕ} 0 1 = cc in omega arith;
    }
  where
    asks : ℕ → Result (Option Level) Refusal
    asks k = Ok (Some (level_at b k l (side_of byte) p))

-- ---- the best and the next

-- an answer that is no refusal says what the best level of those that pass does
said : (b : List ℕ) {k : ℕ} (l byte : ℕ) (passes : ℕ → Bool) (x : Result (Option Level) Refusal) → BookLength (length b) k → refuses x ≡ false
    → checked b byte (best_where b (words_of (length b)) l (side_of byte) passes) ≡ x → Says b k l (side_of byte) passes x
said b {k} l byte passes x z f e =
    subst (Says b k l (side_of byte) passes) (unchecked b byte (λ k. best_where b k l (side_of byte) passes) x z f e)
    (where_says b k l (side_of byte) passes)

pub best_means : (b : List ℕ) (k l byte : ℕ) → BookLength (length b) k → BestMeans b k l byte
unfolding best_of
best_means b k l byte z = record {
  stands = λ x e. let s = said b l byte (λ p. true) (Ok (Some x)) z refl e in (s.0, s.2);
  none = λ e. said b l byte (λ p. true) (Ok None) z refl e;
}

pub next_means : (b : List ℕ) (k l byte p : ℕ) → BookLength (length b) k → NextMeans b k l byte p
unfolding next_of
next_means b k l byte p z = record {
  stands = λ x e. said b l byte (better (side_of byte) p) (Ok (Some x)) z refl e;
  none = λ e. said b l byte (better (side_of byte) p) (Ok None) z refl e;
}
