-- The laws of a sum over the numbers below n.
use Rattle.std.specs.Prelude.{◌≡◌, refl, ℕ, zero, suc, ◌+◌, ◌*◌, ◌≤◌, ◌<◌, ◌≢◌}
use Rattle.std.proofs.Common.{sym, ap, ap₂, ◌∙◌, zero-le, lt-suc_self, le_trans, add-zero, add-suc, add_assoc, suc-mul, add-le-add, zero-mul, not-suc-le-zero, lt_irrefl, le_of_suc-le-suc, subst, arith}
use Rattle.std.proofs.Math.Nat.{le-suc}
use Rattle.std.proofs.Math.Decide.{ℕ_discrete}
use Rattle.std.proofs.Math.Arith.{lt_of_le-ne}
use Rattle.laws.specs.Definitions.{sum_to}

pub sum_ext : (f g : ℕ → ℕ) (n : ℕ) → ((i : ℕ) → i < n → f i ≡ g i) → sum_to f n ≡ sum_to g n
unfolding sum_to
sum_ext f g zero h = refl
sum_ext f g (suc n) h = ap₂ ◌+◌ (sum_ext f g n (λ i l. h i (le_trans l (le-suc n)))) (h n (lt-suc_self n))

-- each term at most c: the sum at most c times n
pub sum-le : (f : ℕ → ℕ) (c n : ℕ) → ((i : ℕ) → i < n → f i ≤ c) → sum_to f n ≤ n * c
unfolding sum_to
sum-le f c zero h = zero-le
sum-le f c (suc n) h = rw suc-mul (add-le-add (sum-le f c n (λ i l. h i (le_trans l (le-suc n)))) (h n (lt-suc_self n)))

-- cut after m
pub sum_cut : (f : ℕ → ℕ) (m n : ℕ) → sum_to f (m + n) ≡ sum_to f m + sum_to (λ i. f (m + i)) n
unfolding sum_to
sum_cut f m zero = ap (sum_to f) (add-zero m) ∙ sym (add-zero (sum_to f m))
sum_cut f m (suc n) = ap (sum_to f) (add-suc m n) ∙ ap (λ (x : ℕ). x + f (m + n)) (sum_cut f m n) ∙ add_assoc (sum_to f m) (sum_to (λ i. f (m + i)) n) (f (m + n))

-- a sum over n blocks of m
pub sum_blocks : (f : ℕ → ℕ) (m n : ℕ) → sum_to f (n * m) ≡ sum_to (λ j. sum_to (λ i. f (j * m + i)) m) n
unfolding sum_to
sum_blocks f m zero = ap (sum_to f) (zero-mul m)
sum_blocks f m (suc n) =
    ap (sum_to f) (suc-mul n m) ∙ sum_cut f (n * m) m
    ∙ ap (λ (x : ℕ). x + sum_to (λ i. f (n * m + i)) m) (sum_blocks f m n)

-- the first term and the rest
pub sum_front : (f : ℕ → ℕ) (n : ℕ) → sum_to f (suc n) ≡ f 0 + sum_to (λ i. f (suc i)) n
unfolding sum_to
sum_front f zero = omega arith
sum_front f (suc n) = ap (λ (x : ℕ). x + f (suc n)) (sum_front f n) ∙ add_assoc (f 0) (sum_to (λ i. f (suc i)) n) (f (suc n))

-- two functions that differ at s alone: the sums differ by what they differ there
pub sum_change : (f g : ℕ → ℕ) (n s : ℕ) → s < n → ((i : ℕ) → i < n → i ≢ s → f i ≡ g i) → sum_to f n + g s ≡ sum_to g n + f s
unfolding sum_to
sum_change f g zero s l h = absurd (not-suc-le-zero l)
sum_change f g (suc n) s l h = elim (ℕ_discrete s n) [ yes e ↦ at_end e | no d ↦ before d (λ q. sum_change f g n s q (λ i q d. h i (le_trans q (le-suc n)) d)) ]
  where
    at_end : s ≡ n → sum_to f n + f n + g s ≡ sum_to g n + g n + f s
    at_end e =
        let q = sum_ext f g n (λ i l. h i (le_trans l (le-suc n)) (λ (d : i ≡ s). lt_irrefl n (subst (λ (x : ℕ). x < n) (d ∙ e) l))) in
        rw (e, q) (omega arith)

    before : (s ≡ n → ⊥) → (s < n → sum_to f n + g s ≡ sum_to g n + f s) → sum_to f n + f n + g s ≡ sum_to g n + g n + f s
    before d ih =
        let q = ih (lt_of_le-ne (le_of_suc-le-suc l) d) in
        let e = h n (lt-suc_self n) (λ (x : n ≡ s). d (sym x)) in
        omega arith
