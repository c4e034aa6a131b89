-- When each kind of field is at fault, as equations of numbers: what a test in the code says of a value says its fault.
-- Assumes nothing.
use Rattle.std.specs.Prelude.{◌≡◌, refl, Bool, true, false, cond, ◌||◌, ℕ, ◌+◌, ◌*◌, ◌%◌, ◌≤◌, ◌<◌, eqb, leb, Ok, Err, Result}
use Rattle.std.proofs.Common.{sym, ap, arith, lt-ltb, le-ltb, le-leb, eq-eqb, ne_eqb, eqb-true}
use Rattle.std.proofs.lemmas.Bool.{eqb-false}
use Rattle.laws.specs.Bools.{fault}
use Rattle.kinds.specs.declared.TooHigh.{TooHigh}
use Rattle.kinds.specs.Admission.{maximum, admission}
use Rattle.kinds.specs.declared.Price.{Price}
use Rattle.wellformed.specs.WellFormed.{good_time, good_shares, good_price, good_printable}
use Rattle.wellformed.specs.FaultSum.{price_held}

pub time_early : (v : ℕ) → v < 86400000000000 → fault (good_time v) ≡ 0
unfolding good_time fault
time_early v l = rw (lt-ltb v 86400000000000 l)

pub time_late : (v : ℕ) → 86400000000000 ≤ v → fault (good_time v) ≡ 1
unfolding good_time fault
time_late v l = rw (le-ltb v 86400000000000 l)

pub shares_some : (v : ℕ) → 1 ≤ v → fault (good_shares v) ≡ 0
unfolding good_shares fault
shares_some v l = rw (le-leb 1 v l)

pub shares_none : (v : ℕ) → v ≡ 0 → fault (good_shares v) ≡ 1
unfolding good_shares fault
shares_none v e = rw e

-- what a number offered as a price came to
pub price_admitted : (v : ℕ) (p : Price) → Ok p ≡ admission v → (price_held v ≡ p.0) × (fault (good_price v) ≡ 0)
unfolding admission good_price price_held fault
price_admitted v p = go (leb v maximum)
  where
    go : (b : Bool) → ◌≡◌ {A = Result Price TooHigh} (Ok p) (cond b (Ok (record { 0 = v })) (Err (record {}))) → (cond b v 0 ≡ p.0) × (fault b ≡ 0)
    go true e = let q : p ≡ record { 0 = v } = cc in (ap (λ (x : Price). x.0) (sym q), refl)
    go false e = let z : ◌≡◌ {A = ℕ} 0 1 = cc in absurd (omega arith)

pub price_too_high : (v : ℕ) (e : TooHigh) → Err e ≡ admission v → (price_held v ≡ 0) × (fault (good_price v) ≡ 1)
unfolding admission good_price price_held fault
price_too_high v e = go (leb v maximum)
  where
    go : (b : Bool) → ◌≡◌ {A = Result Price TooHigh} (Err e) (cond b (Ok (record { 0 = v })) (Err (record {}))) → (cond b v 0 ≡ 0) × (fault b ≡ 1)
    go true e = let z : ◌≡◌ {A = ℕ} 0 1 = cc in absurd (omega arith)
    go false e = (refl, refl)

-- a code that is one of two letters: the test that the code makes of both at once says it
pub printable_is : (v : ℕ) → v ≡ 78 + 11 * (v % 2) → fault (good_printable v) ≡ 0
unfolding good_printable fault
printable_is v e = go (eqb v 89) refl
  where
    go : (b : Bool) → eqb v 89 ≡ b → fault (b || eqb v 78) ≡ 0
    go true p = refl
    go false p = rw (eq-eqb v 78 (omega (arith, eqb-false v 89 p)))

pub printable_is_not : (v : ℕ) → (v ≡ 78 + 11 * (v % 2) → ⊥) → fault (good_printable v) ≡ 1
unfolding good_printable fault
printable_is_not v n = rw (ne_eqb v 89 (λ e. n (omega arith)), ne_eqb v 78 (λ e. n (omega arith)))

-- Y is 89 and odd, N is 78 and even: one test knows both
pub printable_test : (v : ℕ) → eqb v (78 + 11 * (v % 2)) ≡ good_printable v
unfolding good_printable
printable_test v = go (eqb v (78 + 11 * (v % 2))) refl
  where
    either : (b : Bool) → eqb v 89 ≡ b → v ≡ 78 + 11 * (v % 2) → b || eqb v 78 ≡ true
    either true p e = refl
    either false p e = eq-eqb v 78 (omega (arith, eqb-false v 89 p))

    go : (b : Bool) → eqb v (78 + 11 * (v % 2)) ≡ b → b ≡ eqb v 89 || eqb v 78
    go true p = sym (either (eqb v 89) refl (eqb-true v (78 + 11 * (v % 2)) p))
    go false p =
        let n = eqb-false v (78 + 11 * (v % 2)) p in
        rw (ne_eqb v 89 (λ e. n (omega arith)), ne_eqb v 78 (λ e. n (omega arith)))
