-- A fact of each number below n, put together one by one, and taken at any of them. Assumes nothing.
use Rattle.std.specs.Prelude.{◌≡◌, ℕ, zero, suc, ◌<◌}
use Rattle.std.proofs.Common.{sym, subst, ⊎_elim, arith}
use Rattle.laws.specs.Least.{same_or}

infixl 20 ◌▸◌
pub data FactsBelow (P : ℕ → Type 0) : ℕ → Type 0 where
  no_facts : FactsBelow P zero
  ◌▸◌ : {n : ℕ} → FactsBelow P n → P n → FactsBelow P (suc n)

pub fact_at : {P : ℕ → Type 0} {n : ℕ} → FactsBelow P n → (i : ℕ) → i < n → P i
fact_at no_facts i l = absurd (omega arith)
fact_at {P} (◌▸◌ {n = m} f x) i l =
    ⊎_elim (λ (e : i ≡ m). subst P (sym e) x) (λ (d : i ≡ m → ⊥). fact_at f i (omega arith)) (same_or i m)
