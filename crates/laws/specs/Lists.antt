-- Elements of a list by their place, and lists that agree place by place. `nth` computes at a literal place where `get_or`
-- would have to be opened. Assumes nothing.
use Rattle.std.specs.Prelude.{◌≡◌, refl, List, [], ◌∷◌, ℕ, zero, suc, ◌≤◌, ◌<◌, length}
use Rattle.std.proofs.Common.{arith}

-- element i, or 0 past the end
abbrev pub nth : List ℕ → ℕ → ℕ
nth [] i = 0
nth (x ∷ a) zero = x
nth (x ∷ a) (suc i) = nth a i

-- two lists of one length, at most n, that agree at each place below n, are equal
pub same : (n : ℕ) (a b : List ℕ) → length a ≡ length b → length a ≤ n → ((i : ℕ) → i < n → nth a i ≡ nth b i) → a ≡ b
same n [] [] e l h = refl
same n [] (y ∷ b) e l h = absurd (omega arith)
same n (x ∷ a) [] e l h = absurd (omega arith)
same zero (x ∷ a) (y ∷ b) e l h = absurd (omega arith)
same (suc n) (x ∷ a) (y ∷ b) e l h =
    let t : a ≡ b = same n a b (omega arith) (omega arith) (λ i k. h (suc i) (omega arith)) in
    let q : x ≡ y = h 0 (omega arith) in
    cc
