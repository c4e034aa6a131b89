-- Tests put together and taken apart. Assumes nothing.
use Rattle.std.specs.Prelude.{◌≡◌, refl, ◌⊎◌, ℕ, ◌≤◌}
use mathlib.Core.Bool.{Bool, true, false, ◌&&◌}
use Rattle.std.proofs.Common.{inl, inr, arith}

-- 1 where a test fails, else 0
unfoldable pub fault : Bool → ℕ
fault true = 0
fault false = 1

pub fault-le : (b : Bool) → fault b ≤ 1
unfolding fault
fault-le true = omega arith
fault-le false = omega arith

pub fault_none : (b : Bool) → fault b ≡ 0 → b ≡ true
unfolding fault
fault_none true e = refl
fault_none false e = absurd (omega arith)

pub none_fault : (b : Bool) → b ≡ true → fault b ≡ 0
unfolding fault
none_fault b e = rw e

pub some_fault : (b : Bool) → b ≡ false → fault b ≡ 1
unfolding fault
some_fault b e = rw e

-- a test passes or fails
pub cases : (b : Bool) → (b ≡ true) ⊎ (b ≡ false)
cases true = inl refl
cases false = inr refl

pub and_left : (a b : Bool) → a && b ≡ true → a ≡ true
and_left true b e = refl
and_left false b e = e

pub and_right : (a b : Bool) → a && b ≡ true → b ≡ true
and_right true b e = e
and_right false b e = absurd (mathlib.Core.Bool.false≢true e)

pub and_both : (a b : Bool) → a ≡ true → b ≡ true → a && b ≡ true
and_both a b p q = rw (p, q)

pub and-false : (a : Bool) → a && false ≡ false
and-false true = refl
and-false false = refl

pub true_not_false : (b : Bool) → b ≡ true → b ≡ false → ⊥
true_not_false true p q = mathlib.Core.Bool.true≢false q
true_not_false false p q = mathlib.Core.Bool.false≢true p
