-- Why one compare tells what a slot is to a pass. The packed numbers of two stocks or sides are 2^40 apart and ticks stay below
-- 2^32, so no number in the room is of another stock or side. Assumes nothing.
use Rattle.std.specs.Prelude.{◌≡◌, ℕ, ◌+◌, ◌-◌, ◌*◌, ◌/◌, ◌%◌, ◌<◌, ◌≤◌, min, Bool, true, false, ◌&&◌, leb, nat_eq, nat_le, nat_lt, refl, Some}
use Rattle.std.proofs.Math.Path.{sym}
use Rattle.std.proofs.Common.{ap, ◌∙◌}
use native.Mathlib.Omega.{arith}
use borrow.Author.Tests.{eq-eqb, eqb-true, le-leb, leb-true, lt-ltb, ltb-true}
use Rattle.laws.specs.Bools.{and_left, and_right}
use Rattle.kinds.specs.declared.Side.{Side}
use Rattle.kinds.specs.declared.Side.TheVariants.{Buy, Sell}
use Rattle.kinds.specs.Sides.{side_byte}
use Rattle.kinds.specs.SideLaws.{byte_le}
use Rattle.orders.specs.declared.Order.{Order}
use Rattle.orders.specs.Order.{remaining, order_of, fourth, held}
use Rattle.orders.specs.OrderLaws.{held_fit, held-numbers}
use Rattle.orders.specs.Soundness.{Passes, passes-held, fails_held}
use Rattle.levels.specs.declared.Wanted.{Wanted}
use Rattle.levels.specs.declared.Glimpse.TheVariants as glimpse
use Rattle.levels.specs.Levels.{same_side}
use Rattle.levels.specs.Ticks.{ticks_to}
use Rattle.levels.specs.Visits.{is_wanted}
use Rattle.levels.specs.Glances.{matters, glanced, stock_side, Based, room_of}

-- ---- sides by their letters

same-letter : (a b : Side) → side_byte a ≡ side_byte b → same_side a b ≡ true
same-letter Buy Buy e = refl
same-letter Buy Sell e = absurd (omega arith)
same-letter Sell Buy e = absurd (omega arith)
same-letter Sell Sell e = refl

letter-same : (a b : Side) → same_side a b ≡ true → side_byte a ≡ side_byte b
letter-same Buy Buy e = refl
letter-same Buy Sell e = let z : ◌≡◌ {A = ℕ} 0 1 = cc in absurd (omega arith)
letter-same Sell Buy e = let z : ◌≡◌ {A = ℕ} 0 1 = cc in absurd (omega arith)
letter-same Sell Sell e = refl

ticks_small : (s : Side) (p : ℕ) → p < 4294967296 → ticks_to s p < 4294967296
ticks_small Buy p l = omega arith
ticks_small Sell p l = l

-- ---- the compare

-- what the compare sees of an order: `past` is what wrapping leaves of its packed number without the base
record Packed (w : Wanted) (o : Order) (base past : ℕ) : Type 0 where
  based : Based w base
  small : base < 18446744073709551616
  fits : past < 18446744073709551616
  ticks : ticks_to w.side o.price.0 < 4294967296
  locate : o.locate.0 < 65536
  wraps : (past + base) % 18446744073709551616
      ≡ stock_side o.locate.0 (side_byte o.side) * 1099511627776 + ticks_to w.side o.price.0

-- where the room ends
pub room-end : (to most a b end : ℕ) → a ≡ min to 4294967296 → b ≡ min most 4294967296 → end ≡ min a (b + 1)
    → end ≡ min (min to 4294967296) (most + 1)
room-end to most a b end p q r = r ∙ rw (p, q) (omega arith)

-- what `matters` asks
record Parts (w : Wanted) (most : ℕ) (o : Order) : Type 0 where
  stock : o.locate.0 ≡ w.locate.0
  letter : side_byte o.side ≡ side_byte w.side
  late : w.from ≤ ticks_to w.side o.price.0
  early : ticks_to w.side o.price.0 < w.to
  near : ticks_to w.side o.price.0 ≤ most

matters_parts : (w : Wanted) (most : ℕ) (o : Order) → matters w most o ≡ true → Parts w most o
matters_parts w most o e =
    let s = ticks_to w.side o.price.0 in
    let same = nat_eq o.locate.0 w.locate.0 in
    let side = same_side o.side w.side in
    let late = leb w.from s in
    let early = nat_lt s w.to in
    let wanted = and_left (is_wanted w o) (nat_le s most) e in
    let rest = and_right same (side && (late && early)) wanted in
    let both = and_right side (late && early) rest in
    record {
      stock = eqb-true _ _ (and_left same (side && (late && early)) wanted);
      letter = letter-same o.side w.side (and_left side (late && early) rest);
      late = leb-true _ _ (and_left late early both);
      early = ltb-true _ _ (and_right late early both);
      near = leb-true _ _ (and_right (is_wanted w o) (nat_le s most) e);
    }

past_room : (w : Wanted) (most : ℕ) (o : Order) (base past : ℕ) → Packed w o base past → Parts w most o → room_of w most ≤ past → ⊥
unfolding room_of Based
past_room w most o base past p q l =
    let s = p.ticks in
    let b = p.based (omega (arith, q.late)) in
    let wraps = p.wraps in
    let own = byte_le w.side in
    let e : stock_side o.locate.0 (side_byte o.side) ≡ stock_side w.locate.0 (side_byte w.side) = omega (arith, q.stock, q.letter) in
    let at : past + w.from ≡ ticks_to w.side o.price.0 = omega (arith, q.late) in
    omega (arith, q.late, q.early, q.near)

module _ (w : Wanted) (most : ℕ) (o : Order) (base past : ℕ) (p : Packed w o base past) where
  -- in the room: of the stock and the side, and its ticks are wanted and no worse
  inside : past < room_of w most → matters w most o ≡ true
  unfolding room_of Based
  inside l =
      let s = ticks_to w.side o.price.0 in
      let f : w.from < 4294967296 = omega arith in
      let b = p.based f in
      let own = byte_le o.side in
      let other = byte_le w.side in
      let e : stock_side o.locate.0 (side_byte o.side) ≡ stock_side w.locate.0 (side_byte w.side) = omega (arith, p.wraps, p.ticks) in
      let at : s ≡ w.from + past = omega (arith, p.wraps) in
      rw (eq-eqb o.locate.0 w.locate.0 (omega arith), same-letter o.side w.side (omega arith))
      (rw (le-leb w.from s (omega arith), lt-ltb s w.to (omega arith), le-leb s most (omega arith)) refl)

  -- past the room
  outside : room_of w most ≤ past → matters w most o ≡ false
  outside l = go (matters w most o) refl
    where
      go : (t : Bool) → matters w most o ≡ t → t ≡ false
      go true e = absurd (past_room w most o base past p (matters_parts w most o e) l)
      go false e = refl

-- ---- a slot's numbers

-- what the code has computed of a slot that passes
pub record Weighed (w : Wanted) (n1 n2 n3 base past ticks : ℕ) : Type 0 where
  pub passes : Passes n1 n2 n3
  pub second : n1 < 18446744073709551616
  pub fourth : n3 < 18446744073709551616
  pub based : Based w base
  pub small : base < 18446744073709551616
  pub fits : past < 18446744073709551616
  pub away : ticks ≡ ticks_to w.side (n1 / 4294967296)
  pub wraps : (past + base) % 18446744073709551616 ≡ n3 - n3 % 1099511627776 + ticks

module _ (w : Wanted) (most n1 n2 n3 : ℕ) (n0 : ℕ) where
  pub fails_glance : (Passes n1 n2 n3 → ⊥) → glimpse.Unsound ≡ glanced w most (held n0 n1 n2 n3)
  unfolding glanced
  fails_glance f = sym (ap (glanced w most) (fails_held n0 n1 n2 n3 f))

  module _ {base past ticks : ℕ} (g : Weighed w n1 n2 n3 base past ticks) where
    holds : held n0 n1 n2 n3 ≡ Some (order_of n0 n1 n2 n3)
    holds = passes-held n0 n1 n2 n3 g.passes

    packed : Packed w (order_of n0 n1 n2 n3) base past
    unfolding order_of fourth
    packed =
        let f = held_fit n0 n1 n2 n3 (order_of n0 n1 n2 n3) g.fourth holds in
        let n = (held-numbers n0 n1 n2 n3 (order_of n0 n1 n2 n3) holds).3 in
        let away = g.away in
        let l = byte_le (order_of n0 n1 n2 n3).side in
        record {
          based = g.based;
          small = g.small;
          fits = g.fits;
          ticks = ticks_small w.side (n1 / 4294967296) (omega (arith, g.second));
          locate = f.locate;
          wraps = g.wraps ∙ omega (arith, f.attribution);
        }

    away_price : ticks_to w.side (order_of n0 n1 n2 n3).price.0 ≡ ticks
    unfolding order_of
    away_price = sym g.away

    remains : remaining (order_of n0 n1 n2 n3) ≡ n1 % 4294967296 - (n2 / 4294967296 + n2 % 4294967296)
    unfolding order_of remaining
    remains = omega arith

    pub stands_glance : past < room_of w most
        → glimpse.Stands ticks (n1 % 4294967296 - (n2 / 4294967296 + n2 % 4294967296)) ≡ glanced w most (held n0 n1 n2 n3)
    unfolding glanced
    stands_glance l =
        sym (ap (glanced w most) holds
        ∙ rw (inside w most (order_of n0 n1 n2 n3) base past packed l) (λ i. glimpse.Stands (away_price i) (remains i)))

    pub other_glance : room_of w most ≤ past → glimpse.Other ≡ glanced w most (held n0 n1 n2 n3)
    unfolding glanced
    other_glance l = sym (ap (glanced w most) holds ∙ rw (outside w most (order_of n0 n1 n2 n3) base past packed l))
