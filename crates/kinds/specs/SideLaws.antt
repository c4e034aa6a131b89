-- The laws of a side's byte. Assumes nothing.
use Rattle.std.specs.Prelude.{ℕ, ◌+◌, ◌*◌, ◌%◌, ◌≤◌, ◌≡◌, refl, Bool, true, false, cond, ◌||◌, eqb}
use Rattle.std.proofs.Common.{sym, arith, eq-eqb, ne_eqb, eqb-true}
use Rattle.std.proofs.lemmas.Bool.{eqb-false}
use Rattle.kinds.specs.declared.Side.{Side}
use Rattle.kinds.specs.declared.Side.TheVariants.{Buy, Sell}
use Rattle.kinds.specs.Sides.{side_byte, side_of, good_side}

pub side_back : (s : Side) → side_of (side_byte s) ≡ s
side_back Buy = refl
side_back Sell = refl

pub byte_le : (s : Side) → side_byte s ≤ 83
byte_le Buy = omega arith
byte_le Sell = omega arith

pub byte-good : (s : Side) → good_side (side_byte s) ≡ true
unfolding good_side
byte-good Buy = refl
byte-good Sell = refl

pub buys : (v : ℕ) → v ≡ 66 → side_of v ≡ Buy
buys v e = rw (eq-eqb v 66 e)

pub sells : (v : ℕ) → (v ≡ 66 → ⊥) → side_of v ≡ Sell
sells v n = rw (ne_eqb v 66 n)

-- B is 66 and even, S is 83 and odd: one test knows both
pub letter-good : (v : ℕ) → v ≡ 66 + 17 * (v % 2) → good_side v ≡ true
unfolding good_side
letter-good v e = go (eqb v 66) refl
  where
    go : (b : Bool) → eqb v 66 ≡ b → b || eqb v 83 ≡ true
    go true p = refl
    go false p = eq-eqb v 83 (omega (arith, eqb-false v 66 p))

other_bad : (v : ℕ) → (v ≡ 66 + 17 * (v % 2) → ⊥) → good_side v ≡ false
unfolding good_side
other_bad v n = rw (ne_eqb v 66 (λ e. n (omega arith)), ne_eqb v 83 (λ e. n (omega arith)))

pub letter-test : (v : ℕ) → eqb v (66 + 17 * (v % 2)) ≡ good_side v
letter-test v = go (eqb v (66 + 17 * (v % 2))) refl
  where
    go : (b : Bool) → eqb v (66 + 17 * (v % 2)) ≡ b → b ≡ good_side v
    go true p = sym (letter-good v (eqb-true v (66 + 17 * (v % 2)) p))
    go false p = sym (other_bad v (eqb-false v (66 + 17 * (v % 2)) p))

-- a good byte is that of its side
pub good_back : (v : ℕ) → good_side v ≡ true → side_byte (side_of v) ≡ v
unfolding good_side
good_back v = go (eqb v 66) refl
  where
    go : (b : Bool) → eqb v 66 ≡ b → b || eqb v 83 ≡ true → side_byte (cond b Buy Sell) ≡ v
    go true p e = omega (arith, eqb-true v 66 p)
    go false p e = omega (arith, eqb-true v 83 e)
