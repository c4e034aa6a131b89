-- The laws of an order's life, for those who keep orders in slots: what a slot holds is sound, a sound order packed into a
-- slot's numbers is held again, a step leaves a sound order or nothing, and no step loses a share. Assumes nothing.
use Rattle.std.specs.Prelude.{◌≡◌, refl, ℕ, ◌+◌, ◌-◌, ◌/◌, ◌%◌, ◌≤◌, ◌<◌, true, Some}
use Rattle.std.proofs.Common.{ap, ◌∙◌}
use native.Mathlib.Omega.{arith}
use Rattle.laws.specs.Bools.{fault_none, none_fault}
use Rattle.kinds.specs.Admission.{maximum}
use Rattle.kinds.specs.Sides.{side_byte, good_side}
use Rattle.kinds.specs.SideLaws.{byte-good, byte_le, good_back, side_back}
use Rattle.text.specs.Text.{text}
use Rattle.orders.specs.declared.Order.{Order}
use Rattle.orders.specs.Order.{remaining, executed_by, cancelled_by, closed_of, second, third, fourth, order_of, held}
use Rattle.orders.specs.Soundness.{Passes, passes-held, held-passes}

-- ---- what a slot holds

pub record HeldSound (n0 n1 n2 n3 : ℕ) (o : Order) : Type 0 where
  pub order : o ≡ order_of n0 n1 n2 n3
  pub price : o.price.0 ≤ maximum
  pub added : o.added < 4294967296
  pub left : o.executed + o.cancelled < o.added
  pub closed : o.closed ≡ 0
  pub listed : 1 ≤ o.locate.0
  pub side : good_side (n3 / 1099511627776 % 256) ≡ true
  pub worded : text 4 o.attribution ≡ true
  pub remains : 0 < remaining o

pub held-sound : (n0 n1 n2 n3 : ℕ) (o : Order) → held n0 n1 n2 n3 ≡ Some o → HeldSound n0 n1 n2 n3 o
unfolding order_of remaining
held-sound n0 n1 n2 n3 o h =
    let p = (held-passes n0 n1 n2 n3 o h).0 in
    let e = (held-passes n0 n1 n2 n3 o h).1 in
    rw e (record {
      order = refl;
      price = p.price;
      added = omega arith;
      left = p.left;
      closed = refl;
      listed = p.locate;
      side = p.side;
      worded = fault_none _ p.attribution;
      remains = omega arith;
    })

-- a slot's numbers are those of the order that it holds
pub held-numbers : (n0 n1 n2 n3 : ℕ) (o : Order) → held n0 n1 n2 n3 ≡ Some o
    → (o.reference.0 ≡ n0) × (second o ≡ n1) × (third o ≡ n2) × (fourth o ≡ n3)
unfolding order_of second third fourth
held-numbers n0 n1 n2 n3 o h =
    let p = (held-passes n0 n1 n2 n3 o h).0 in
    let e = (held-passes n0 n1 n2 n3 o h).1 in
    rw e (refl, omega arith, omega arith, omega (arith, good_back (n3 / 1099511627776 % 256) p.side))

-- ---- orders that a slot can hold

-- (executed and cancelled are below 2^32 because added is)
pub record Fit (o : Order) : Type 0 where
  pub price : o.price.0 ≤ maximum
  pub added : o.added < 4294967296
  pub left : o.executed + o.cancelled < o.added
  pub closed : o.closed ≡ 0
  pub listed : 1 ≤ o.locate.0
  pub locate : o.locate.0 < 65536
  pub attribution : o.attribution < 4294967296
  pub worded : text 4 o.attribution ≡ true

-- the order that a slot holds
pub held_fit : (n0 n1 n2 n3 : ℕ) (o : Order) → n3 < 18446744073709551616 → held n0 n1 n2 n3 ≡ Some o → Fit o
unfolding order_of
held_fit n0 n1 n2 n3 o b h =
    let s = held-sound n0 n1 n2 n3 o h in
    let l : o.locate.0 ≡ n3 / 281474976710656 = ap (λ (x : Order). x.locate.0) s.order in
    let t : o.attribution ≡ n3 / 256 % 4294967296 = ap (λ (x : Order). x.attribution) s.order in
    record {
      price = s.price;
      added = s.added;
      left = s.left;
      closed = s.closed;
      listed = s.listed;
      locate = omega arith;
      attribution = omega arith;
      worded = s.worded;
    }

-- an order that was just added
pub fresh_fit : (o : Order) → o.price.0 ≤ maximum → 1 ≤ o.added → o.added < 4294967296
    → o.executed ≡ 0 → o.cancelled ≡ 0 → o.closed ≡ 0
    → 1 ≤ o.locate.0 → o.locate.0 < 65536 → o.attribution < 4294967296 → text 4 o.attribution ≡ true → Fit o
fresh_fit o price some added executed cancelled closed listed locate attribution worded = record {
  price = price;
  added = added;
  left = omega arith;
  closed = closed;
  listed = listed;
  locate = locate;
  attribution = attribution;
  worded = worded;
}

-- ---- a fit order, packed, is held again

module _ (o : Order) (f : Fit o) where
  price_back : second o / 4294967296 ≡ o.price.0
  unfolding second
  price_back = omega arith

  added_back : second o % 4294967296 ≡ o.added
  unfolding second
  added_back = omega arith

  executed_back : third o / 4294967296 ≡ o.executed
  unfolding third
  executed_back = omega arith

  cancelled_back : third o % 4294967296 ≡ o.cancelled
  unfolding third
  cancelled_back = omega arith

  locate_back : fourth o / 281474976710656 ≡ o.locate.0
  unfolding fourth
  locate_back = omega (arith, byte_le o.side)

  byte_back : fourth o / 1099511627776 % 256 ≡ side_byte o.side
  unfolding fourth
  byte_back = omega (arith, byte_le o.side)

  attribution_back : fourth o / 256 % 4294967296 ≡ o.attribution
  unfolding fourth
  attribution_back = omega (arith, byte_le o.side)

  low_back : fourth o % 256 ≡ 0
  unfolding fourth
  low_back = omega arith

  passes_again : Passes (second o) (third o) (fourth o)
  passes_again = record {
    price = rw price_back f.price;
    locate = rw locate_back f.listed;
    side = rw byte_back (byte-good o.side);
    attribution = rw attribution_back (none_fault (text 4 o.attribution) f.worded);
    low = low_back;
    left = rw (executed_back, cancelled_back, added_back) f.left;
  }

  order_again : order_of o.reference.0 (second o) (third o) (fourth o) ≡ o
  unfolding order_of
  order_again =
      rw (price_back, added_back, executed_back, cancelled_back, locate_back, byte_back, attribution_back)
      (rw (side_back o.side, f.closed))

  pub held_again : held o.reference.0 (second o) (third o) (fourth o) ≡ Some o
  held_again = passes-held o.reference.0 (second o) (third o) (fourth o) passes_again ∙ ap Some order_again

-- ---- steps

-- what remains after a step
pub executed_remaining : (o : Order) (n : ℕ) → remaining (executed_by o n) ≡ remaining o - n
unfolding executed_by remaining
executed_remaining o n = omega arith

pub cancelled_remaining : (o : Order) (n : ℕ) → remaining (cancelled_by o n) ≡ remaining o - n
unfolding cancelled_by remaining
cancelled_remaining o n = omega arith

pub closed_remaining : (o : Order) → remaining (closed_of o) ≡ 0
unfolding closed_of remaining
closed_remaining o = omega arith

-- a fit order of which fewer shares are taken than remain is fit
pub executed_again : (o : Order) (n : ℕ) → Fit o → n < remaining o → Fit (executed_by o n)
unfolding executed_by remaining
executed_again o n f l = record {
  price = f.price;
  added = f.added;
  left = omega arith;
  closed = f.closed;
  listed = f.listed;
  locate = f.locate;
  attribution = f.attribution;
  worded = f.worded;
}

pub cancelled_again : (o : Order) (n : ℕ) → Fit o → n < remaining o → Fit (cancelled_by o n)
unfolding cancelled_by remaining
cancelled_again o n f l = record {
  price = f.price;
  added = f.added;
  left = omega arith;
  closed = f.closed;
  listed = f.listed;
  locate = f.locate;
  attribution = f.attribution;
  worded = f.worded;
}

-- no more is gone than was added, after all that remains is closed
pub closed_fits : (o x : Order) → o.executed + o.cancelled + o.closed ≤ o.added → x ≡ closed_of o
    → x.executed + x.cancelled + x.closed ≤ x.added
unfolding closed_of remaining
closed_fits o x l e = rw e (omega arith)

-- ---- no share is lost

-- the added shares are the executed, the cancelled, the closed and what remains
unfoldable pub Conserved : Order → Type 0
Conserved o = o.added ≡ o.executed + o.cancelled + o.closed + remaining o

pub executed_conserved : (o : Order) (n : ℕ) → Conserved o → n ≤ remaining o → Conserved (executed_by o n)
unfolding Conserved remaining executed_by
executed_conserved o n h l = omega arith

pub cancelled_conserved : (o : Order) (n : ℕ) → Conserved o → n ≤ remaining o → Conserved (cancelled_by o n)
unfolding Conserved remaining cancelled_by
cancelled_conserved o n h l = omega arith

pub closed_conserved : (o : Order) → Conserved o → Conserved (closed_of o)
unfolding Conserved remaining closed_of
closed_conserved o h = omega arith
