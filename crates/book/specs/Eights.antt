-- Eight references that are not the one wanted, and what that says of a map number's search. Assumes nothing.
use Rattle.std.specs.Prelude.{◌≡◌, false, List, ℕ, ◌+◌, ◌-◌, ◌*◌, ◌≤◌, ◌<◌, get_or}
use Rattle.std.proofs.Common.{subst, ⊎_elim, arith}
use Rattle.laws.specs.Least.{lt-or-le}
use Rattle.book.specs.Words.{in_word, in_other}

-- none of the eight slots from place a on has r as its number 0
abbrev pub NoneOfEight : List ℕ → ℕ → ℕ → Type 0
NoneOfEight b a r = (i : ℕ) → i < 8 → get_or b (a + 4 * i) 0 ≡ r → ⊥

-- none below i, and none of the eight from i
pub eight_more : (b : List ℕ) (k r j i : ℕ) → ((t : ℕ) → t < i → in_word b k r j t ≡ false) → NoneOfEight b (k + 4 * (64 * j + i)) r
    → (t : ℕ) → t < i + 8 → in_word b k r j t ≡ false
eight_more b k r j i old none t l = ⊎_elim (λ h. old t h) (λ h. in_other b k r j t (other h)) (lt-or-le t i)
  where
    other : i ≤ t → get_or b (k + 4 * (64 * j + t)) 0 ≡ r → ⊥
    other h =
        let place : k + 4 * (64 * j + i) + 4 * (t - i) ≡ k + 4 * (64 * j + t) = omega arith in
        subst (λ (x : ℕ). get_or b x 0 ≡ r → ⊥) place (none (t - i) (omega arith))
