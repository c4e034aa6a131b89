-- What is a book: `words_of` its length is its map numbers, and 0 where no k makes it one. So an answer that gives 14 where that is
-- 0, and else goes on, gives exactly the numbers that `in_book` says (`exactly_in`). Assumes nothing.
use Rattle.std.specs.Prelude.{◌≡◌, refl, ◌↔◌, Bool, true, false, cond, List, ℕ, eqb, length}
use Rattle.std.proofs.Common.{sym, subst, ◌∙◌, inl, inr, arith, eqb-true}
use Rattle.std.proofs.lemmas.Bool.{eqb-false}
use Rattle.book.specs.Book.{words_of}
use Rattle.book.specs.Shape.{length_words, words_length}
use Rattle.apply_theorems.specs.Earns.{One, one_of}
use Rattle.ask_theorems.specs.Statements.{in_book}

-- ---- the number of an answer

-- an answer with 14 for what is no book, and with what the checks say for a book
in_book_lem : {A : Type 0} (number : A → ℕ) (b : List ℕ) (checks : ℕ → ℕ → Type 0) (refusal answer : A)
    → number refusal ≡ 14 → checks (words_of (length b)) (number answer)
    → in_book b checks (number (cond (eqb (words_of (length b)) 0) refusal answer))
in_book_lem number b checks refusal answer p c = go (eqb (words_of (length b)) 0) refl
  where
    go : (t : Bool) → eqb (words_of (length b)) 0 ≡ t → in_book b checks (number (cond t refusal answer))
    go true e = inl ((λ k z. omega (arith, length_words z, eqb-true (words_of (length b)) 0 e, z.some)), p)
    go false e =
        let z = words_length (length b) (eqb-false _ _ e) in
        inr ((λ u. u (words_of (length b)) z), (words_of (length b), z, c))

-- and it is the only one
in_book_one : (b : List ℕ) (checks : ℕ → ℕ → Type 0) → ((k : ℕ) → One (checks k)) → One (in_book b checks)
in_book_one b checks o = one_of λ m n x y.
    let e = sym (length_words x.1) ∙ length_words y.1 in
    o y.0 m n (rw e at x.2) y.2

-- so it is given exactly where the checks say so
pub exactly_in : {A : Type 0} (number : A → ℕ) (b : List ℕ) (checks : ℕ → ℕ → Type 0) (refusal answer : A)
    → number refusal ≡ 14 → ((k : ℕ) → One (checks k)) → checks (words_of (length b)) (number answer)
    → (n : ℕ) → number (cond (eqb (words_of (length b)) 0) refusal answer) ≡ n ↔ in_book b checks n
exactly_in number b checks refusal answer p o c n =
    let given = in_book_lem number b checks refusal answer p c in
    (λ e. subst (in_book b checks) e given, λ g. in_book_one b checks o _ n given g)
