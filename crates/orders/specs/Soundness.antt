-- What a test of a slot's numbers says of the slot. `Passes` is what `sound` asks, as facts of numbers: a slot that passes holds
-- its order, and one that does not holds none. Assumes nothing.
use Rattle.std.specs.Prelude.{◌≡◌, refl, Bool, true, false, cond, ◌&&◌, ℕ, ◌+◌, ◌/◌, ◌%◌, ◌≤◌, ◌<◌, Some, None, Ok, Err, Result}
use Rattle.std.proofs.Common.{arith}
use Rattle.std.proofs.Math.Dec.{eqb, leb, ltb}
use borrow.Author.Tests.{le-leb, lt-ltb, eq-eqb, leb-true, leb-false, ltb-true, eqb-true}
use Rattle.laws.specs.Bools.{fault, and_left, and_right, fault_none, none_fault}
use Rattle.kinds.specs.declared.TooHigh.{TooHigh}
use Rattle.kinds.specs.Admission.{maximum, admission}
use Rattle.kinds.specs.declared.Price.{Price}
use Rattle.kinds.specs.Sides.{good_side}
use Rattle.text.specs.Text.{text}
use Rattle.orders.specs.declared.Order.{Order}
use Rattle.orders.specs.Order.{sound, order_of, held}

-- ---- what a number offered as a price came to

pub admitted : (v : ℕ) (p : Price) → Ok p ≡ admission v → (v ≤ maximum) × (p ≡ record { 0 = v })
unfolding admission
admitted v p = go (leb v maximum) refl
  where
    go : (b : Bool) → leb v maximum ≡ b → ◌≡◌ {A = Result Price TooHigh} (Ok p) (cond b (Ok (record { 0 = v })) (Err (record {}))) → (v ≤ maximum) × (p ≡ record { 0 = v })
    go true q e = (leb-true v maximum q, cc)
    go false q e = let z : ◌≡◌ {A = ℕ} 0 1 = cc in absurd (omega arith)

pub not_admitted : (v : ℕ) (e : TooHigh) → Err e ≡ admission v → maximum < v
unfolding admission
not_admitted v e = go (leb v maximum) refl
  where
    go : (b : Bool) → leb v maximum ≡ b → ◌≡◌ {A = Result Price TooHigh} (Err e) (cond b (Ok (record { 0 = v })) (Err (record {}))) → maximum < v
    go true q f = let z : ◌≡◌ {A = ℕ} 0 1 = cc in absurd (omega arith)
    go false q f = leb-false v maximum q

-- ---- a slot's numbers

pub record Passes (n1 n2 n3 : ℕ) : Type 0 where
  pub price : n1 / 4294967296 ≤ maximum
  pub locate : 1 ≤ n3 / 281474976710656
  pub side : good_side (n3 / 1099511627776 % 256) ≡ true
  pub attribution : fault (text 4 (n3 / 256 % 4294967296)) ≡ 0
  pub low : n3 % 256 ≡ 0
  pub left : n2 / 4294967296 + n2 % 4294967296 < n1 % 4294967296

module _ (n1 n2 n3 : ℕ) where
  passes-sound : Passes n1 n2 n3 → sound n1 n2 n3 ≡ true
  unfolding sound
  passes-sound p =
      rw (le-leb _ _ p.price, le-leb _ _ p.locate, p.side, fault_none _ p.attribution, eq-eqb _ _ p.low, lt-ltb _ _ p.left)

  sound-passes : sound n1 n2 n3 ≡ true → Passes n1 n2 n3
  unfolding sound
  sound-passes e1 =
      let side = n3 / 1099511627776 % 256 in
      let words = n3 / 256 % 4294967296 in
      let t6 = ltb (n2 / 4294967296 + n2 % 4294967296) (n1 % 4294967296) in
      let t5 = eqb (n3 % 256) 0 in
      let t4 = text 4 words in
      let t3 = good_side side in
      let t2 = leb 1 (n3 / 281474976710656) in
      let t1 = leb (n1 / 4294967296) maximum in
      let e2 = and_right t1 (t2 && (t3 && (t4 && (t5 && t6)))) e1 in
      let e3 = and_right t2 (t3 && (t4 && (t5 && t6))) e2 in
      let e4 = and_right t3 (t4 && (t5 && t6)) e3 in
      let e5 = and_right t4 (t5 && t6) e4 in
      record {
        price = leb-true _ _ (and_left t1 (t2 && (t3 && (t4 && (t5 && t6)))) e1);
        locate = leb-true _ _ (and_left t2 (t3 && (t4 && (t5 && t6))) e2);
        side = and_left t3 (t4 && (t5 && t6)) e3;
        attribution = none_fault t4 (and_left t4 (t5 && t6) e4);
        low = eqb-true _ _ (and_left t5 t6 e5);
        left = ltb-true _ _ (and_right t5 t6 e5);
      }

-- a slot that passes holds its order
pub passes-held : (n0 n1 n2 n3 : ℕ) → Passes n1 n2 n3 → held n0 n1 n2 n3 ≡ Some (order_of n0 n1 n2 n3)
unfolding held
passes-held n0 n1 n2 n3 p = rw (passes-sound n1 n2 n3 p)

-- one that does not pass holds none
pub fails_held : (n0 n1 n2 n3 : ℕ) → (Passes n1 n2 n3 → ⊥) → held n0 n1 n2 n3 ≡ None
unfolding held
fails_held n0 n1 n2 n3 f = go (sound n1 n2 n3) refl
  where
    go : (b : Bool) → sound n1 n2 n3 ≡ b → cond b (Some (order_of n0 n1 n2 n3)) None ≡ None
    go true e = absurd (f (sound-passes n1 n2 n3 e))
    go false e = refl

-- and one that holds an order passes, and the order is its own
pub held-passes : (n0 n1 n2 n3 : ℕ) (o : Order) → held n0 n1 n2 n3 ≡ Some o → Passes n1 n2 n3 × (o ≡ order_of n0 n1 n2 n3)
unfolding held
held-passes n0 n1 n2 n3 o = go (sound n1 n2 n3) refl
  where
    go : (b : Bool) → sound n1 n2 n3 ≡ b → cond b (Some (order_of n0 n1 n2 n3)) None ≡ Some o → Passes n1 n2 n3 × (o ≡ order_of n0 n1 n2 n3)
    go true e h = (sound-passes n1 n2 n3 e, cc)
    go false e h = let z : ◌≡◌ {A = ℕ} 0 1 = cc in absurd (omega arith)
