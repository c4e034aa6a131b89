-- The letters of a slot's fourth number: what its tests say of `lettered`, and that the usual ones, which one compare knows, pass.
-- Assumes nothing.
use Rattle.std.specs.Prelude.{◌≡◌, ℕ, ◌+◌, ◌*◌, ◌/◌, ◌%◌, Bool, true, false, ◌&&◌, ◌==◌, nat_eq, refl}
use Rattle.std.proofs.Common.{ap, ◌∙◌, arith, eq-eqb, eqb-true}
use Rattle.laws.specs.Bools.{fault, and_left, and_right, fault_none, none_fault}
use Rattle.kinds.specs.Sides.{good_side}
use Rattle.kinds.specs.SideLaws.{letter-good}
use Rattle.text.specs.Text.{text, letters, letter}
use Rattle.orders.specs.Soundness.{Passes}
use Rattle.levels.specs.Glances.{lettered}

pub record Letters (n3 : ℕ) : Type 0 where
  pub side : good_side (n3 / 1099511627776 % 256) ≡ true
  pub attribution : fault (text 4 (n3 / 256 % 4294967296)) ≡ 0
  pub low : n3 % 256 ≡ 0

pub letters_pass : (n3 : ℕ) → Letters n3 → true ≡ lettered n3
unfolding lettered
letters_pass n3 l = rw (l.side, fault_none _ l.attribution, eq-eqb _ _ l.low)

pub pass_letters : (n3 : ℕ) → lettered n3 ≡ true → Letters n3
unfolding lettered
pass_letters n3 e =
    let s = good_side (n3 / 1099511627776 % 256) in
    let t = text 4 (n3 / 256 % 4294967296) in
    let l = nat_eq (n3 % 256) 0 in
    let f = and_right s (t && l) e in
    record {
      side = and_left s (t && l) e;
      attribution = none_fault t (and_left t l f);
      low = eqb-true _ _ (and_right t l f);
    }

pub letters_fail : (n3 : ℕ) → (Letters n3 → ⊥) → false ≡ lettered n3
letters_fail n3 f = go (lettered n3) refl
  where
    go : (b : Bool) → lettered n3 ≡ b → false ≡ b
    go true e = absurd (f (pass_letters n3 e))
    go false e = refl

fault-zero : (t : Bool) → (fault t == 0) ≡ (t && true)
unfolding fault
fault-zero true = refl
fault-zero false = refl

-- past the side and the low byte it is the attribution alone
pub spelled_last : (n3 v : ℕ) → good_side (n3 / 1099511627776 % 256) ≡ true → n3 % 256 ≡ 0
    → v ≡ fault (text 4 (n3 / 256 % 4294967296)) → (v == 0) ≡ lettered n3
unfolding lettered
spelled_last n3 v side low e =
    rw (side, eq-eqb _ _ low) (ap (λ (x : ℕ). nat_eq x 0) e ∙ fault-zero (text 4 (n3 / 256 % 4294967296)))

nsdq : (a : ℕ) → a ≡ 1314079825 → fault (text 4 a) ≡ 0
unfolding fault text letters letter
nsdq a e = rw e

-- B or S with NSDQ
pub usual_letters : (n3 : ℕ) → n3 % 281474976710656 ≡ 72904171868416 + n3 / 1099511627776 % 2 * 18691697672192 → Letters n3
usual_letters n3 e = record {
  side = letter-good (n3 / 1099511627776 % 256) (omega (arith, top, letter));
  attribution = nsdq (n3 / 256 % 4294967296) (omega arith);
  low = omega arith;
}
  where
    top : n3 / 1099511627776 % 256 ≡ n3 % 281474976710656 / 1099511627776
    top = omega arith

    letter : n3 % 281474976710656 / 1099511627776 ≡ 66 + 17 * (n3 / 1099511627776 % 2)
    letter = omega arith

-- a slot without them does not pass
pub unlettered : (n1 n2 n3 : ℕ) → lettered n3 ≡ false → Passes n1 n2 n3 → ⊥
unlettered n1 n2 n3 e p =
    let t = letters_pass n3 (record { side = p.side; attribution = p.attribution; low = p.low }) in
    let z : ◌≡◌ {A = ℕ} 0 1 = cc in
    omega arith
