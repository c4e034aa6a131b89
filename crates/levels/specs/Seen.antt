-- What a whole pass saw is what the definitions say: the first tick at which an order stands, with the totals there, or that some
-- live slot is unsound. Assumes nothing.
use Rattle.std.specs.Prelude.{◌≡◌, ℕ, ◌+◌, ◌*◌, ◌<◌, ◌≤◌, Bool, true, false, cond, ◌&&◌, List, ◌==◌, ◌≢◌, nat_lt, refl, Option, Some, None}
use Rattle.std.proofs.Common.{sym, ap, ◌∙◌, ⊎_elim, arith, eq-eqb, ne_eqb, eqb-true, le-leb, lt-ltb, ltb-true, ltb-false}
use Rattle.laws.specs.Bools.{and-false}
use Rattle.laws.specs.Least.{same_or}
use Rattle.kinds.specs.declared.Side.{Side}
use Rattle.orders.specs.declared.Order.{Order}
use Rattle.orders.specs.Order.{remaining}
use Rattle.slots.specs.Stored.{held_at}
use Rattle.levels.specs.declared.Wanted.{Wanted}
use Rattle.levels.specs.declared.Best.{Best}
use Rattle.levels.specs.Totals.{total}
use Rattle.levels.specs.TotalLaws.{Whole, Kept, held_kept, total_ext, total_none, none_total}
use Rattle.levels.specs.Levels.{same_side, stands_at, shares_at, orders_at, unsoundness, all_prices}
use Rattle.levels.specs.Ticks.{price_at, ticks_to, first_tick}
use Rattle.levels.specs.TickLaws.{ticks_price, price_ticks, first-le, first_is, stands_first, stands_none}
use Rattle.levels.specs.Visits.{is_wanted, visited}
use Rattle.levels.specs.Tally.{away, wanted_at, of_wanted, BestBy, wanted_inside, Sees, sees}
use Rattle.levels.specs.Tally.Sees.{saw_unsound, saw_sound}

-- ---- in the definitions' words

-- the shares and the orders that stand at the tick i
abbrev pub shares_on : Wanted → List ℕ → ℕ → ℕ → ℕ
shares_on w b k i = total (shares_at w.locate.0 w.side (price_at w.side i)) b k

abbrev pub orders_on : Wanted → List ℕ → ℕ → ℕ → ℕ
orders_on w b k i = total (orders_at w.locate.0 w.side (price_at w.side i)) b k

abbrev pub first_in : Wanted → List ℕ → ℕ → ℕ
first_in w b k = first_tick b k w.locate.0 w.side w.from w.to

-- what the whole pass saw
abbrev pub best_in : Wanted → List ℕ → ℕ → Best
best_in w b k = record {
  ticks = first_in w b k;
  shares = cond (nat_lt (first_in w b k) w.to) (shares_on w b k (first_in w b k)) 0;
  orders = cond (nat_lt (first_in w b k) w.to) (orders_on w b k (first_in w b k)) 0;
}

-- ---- what is wanted at a tick, and what stands at its price

and-true : (a : Bool) → (a && true) ≡ a
and-true true = refl
and-true false = refl

-- a price is i ticks away where it is the price at i
same_price : (side : Side) (p i : ℕ) → p < all_prices → i < all_prices → (ticks_to side p == i) ≡ (p == price_at side i)
same_price side p i l m = ⊎_elim
    (λ (e : ticks_to side p ≡ i). eq-eqb _ _ e ∙ sym (eq-eqb _ _ (sym (price_ticks side p l) ∙ ap (price_at side) e)))
    (λ (d : ticks_to side p ≡ i → ⊥). ne_eqb _ _ d ∙ sym (ne_eqb _ _ (λ e. d (ap (ticks_to side) e ∙ ticks_price side i m))))
    (same_or (ticks_to side p) i)

module _ (w : Wanted) (most : w.to ≤ all_prices) (i : ℕ) (late : w.from ≤ i) (early : i < w.to) where
  wanted_stands : (o : Order) → Whole o → wanted_at w i o ≡ stands_at w.locate.0 w.side (price_at w.side i) o
  wanted_stands o h =
      go (away w o == i) refl
      ∙ ap (λ (c : Bool). (o.locate.0 == w.locate.0) && (same_side o.side w.side && c))
      (same_price w.side o.price.0 i (omega (arith, h.price)) (omega arith))
    where
      go : (c : Bool) → (away w o == i) ≡ c
          → (is_wanted w o && c) ≡ (o.locate.0 == w.locate.0 && (same_side o.side w.side && c))
      go true e =
          let f = eqb-true (away w o) i e in
          rw (le-leb w.from (away w o) (omega arith), lt-ltb (away w o) w.to (omega arith)) (simp and-true)
      go false e = simp and-false

  -- the totals of what is wanted at a tick are those of its level
  level_total : (f : Order → ℕ) (g : Option Order → ℕ) (b : List ℕ) (k : ℕ)
      → ((o : Order) → cond (stands_at w.locate.0 w.side (price_at w.side i) o) (f o) 0 ≡ g (Some o)) → 0 ≡ g None
      → total (of_wanted w f i) b k ≡ total g b k
  level_total f g b k sound unsound = total_ext (of_wanted w f i) g b k λ s l a. go (held_at b k s) (held_kept b k s)
    where
      go : (h : Option Order) → Kept h → of_wanted w f i h ≡ g h
      go (Some o) h = ap (λ (c : Bool). cond c (f o) 0) (wanted_stands o h) ∙ sound o
      go None h = unsound

  shares_on_lem : (b : List ℕ) (k : ℕ) → total (of_wanted w remaining i) b k ≡ shares_on w b k i
  shares_on_lem b k = level_total remaining (shares_at w.locate.0 w.side (price_at w.side i)) b k (λ o. refl) refl

  orders_on_lem : (b : List ℕ) (k : ℕ) → total (of_wanted w (λ o. 1) i) b k ≡ orders_on w b k i
  orders_on_lem b k = level_total (λ o. 1) (orders_at w.locate.0 w.side (price_at w.side i)) b k (λ o. refl) refl

-- none is wanted at `to`
none_at_end : (w : Wanted) (f : Order → ℕ) (b : List ℕ) (k : ℕ) → total (of_wanted w f w.to) b k ≡ 0
none_at_end w f b k = none_total (of_wanted w f w.to) b k λ s l a. go (held_at b k s)
  where
    apart : (o : Order) (c : Bool) → is_wanted w o ≡ c → (c && away w o == w.to) ≡ false
    apart o true e = ne_eqb (away w o) w.to (λ d. omega (arith, (wanted_inside w o e).1))
    apart o false e = refl

    go : (h : Option Order) → of_wanted w f w.to h ≡ 0
    go (Some o) = ap (λ (c : Bool). cond c (f o) 0) (apart o (is_wanted w o) refl)
    go None = refl

-- ---- the best of a whole pass

same_best : (x y : Best) → x.ticks ≡ y.ticks → x.shares ≡ y.shares → x.orders ≡ y.orders → x ≡ y
same_best x y p q r = λ i. record { ticks = p i; shares = q i; orders = r i }

best_is : (w : Wanted) (b : List ℕ) (k : ℕ) (x : Best) → w.to ≤ all_prices → BestBy w (λ f. total f b k) x → x ≡ best_in w b k
best_is w b k x most l =
    let c = go (nat_lt x.ticks w.to) refl in
    same_best x (best_in w b k) first (rw (← first) c.0) (rw (← first) c.1)
  where
    first : x.ticks ≡ first_in w b k
    first =
        sym
        (first_is b k w.locate.0 w.side w.from w.to x.ticks l.most
        (λ j late m. sym (orders_on_lem w most j late (omega arith) b k) ∙ (l.before j m).1)
        (λ m. ((l.here m).0, omega (arith, orders_on_lem w most x.ticks (l.here m).0 m b k, (l.here m).1))))

    go : (c : Bool) → nat_lt x.ticks w.to ≡ c
        → (x.shares ≡ cond c (shares_on w b k x.ticks) 0) × (x.orders ≡ cond c (orders_on w b k x.ticks) 0)
    go true e =
        let m = ltb-true x.ticks w.to e in
        let late = (l.here m).0 in
        (l.shares ∙ shares_on_lem w most x.ticks late m b k, l.orders ∙ orders_on_lem w most x.ticks late m b k)
    go false e =
        let m = ltb-false x.ticks w.to e in
        let end : x.ticks ≡ w.to = omega (arith, l.most) in
        (l.shares ∙ rw end (none_at_end w remaining b k), l.orders ∙ rw end (none_at_end w (λ o. 1) b k))

-- ---- the pass

whole_pass : (w : Wanted) (b : List ℕ) (k : ℕ) → Sees w (λ f. total f b k) (visited w b k (64 * k))
unfolding total
whole_pass w b k = sees w b k (64 * k)

pub pass_unsound : (w : Wanted) (b : List ℕ) (k : ℕ) → (total unsoundness b k ≢ 0) → visited w b k (64 * k) ≡ None
pass_unsound w b k n = go (whole_pass w b k)
  where
    go : {p : Option Best} → Sees w (λ f. total f b k) p → p ≡ None
    go (saw_unsound h) = refl
    go (saw_sound x z l) = absurd (n z)

pub pass_seen : (w : Wanted) (b : List ℕ) (k : ℕ) → w.to ≤ all_prices → total unsoundness b k ≡ 0
    → visited w b k (64 * k) ≡ Some (best_in w b k)
pass_seen w b k most z = go (whole_pass w b k)
  where
    go : {p : Option Best} → Sees w (λ f. total f b k) p → p ≡ Some (best_in w b k)
    go (saw_unsound h) = absurd (omega arith)
    go (saw_sound x z l) = ap Some (best_is w b k x most l)

-- ---- one tick alone

-- what comes to 0 though its weight is not 0 has failed its test, and comes to 0 by any weight
unless : (t : Bool) (m n : ℕ) → 0 < m → cond t m 0 ≡ 0 → cond t n 0 ≡ 0
unless true m n h e = absurd (omega arith)
unless false m n h e = refl

module _ (b : List ℕ) (k l : ℕ) (side : Side) (p : ℕ) where
  -- a level without orders has no shares
  pub no_orders : total (orders_at l side p) b k ≡ 0 → total (shares_at l side p) b k ≡ 0
  no_orders e =
      none_total (shares_at l side p) b k λ s m a. go (held_at b k s) (total_none (orders_at l side p) b k e s m a)
    where
      go : (h : Option Order) → orders_at l side p h ≡ 0 → shares_at l side p h ≡ 0
      go (Some o) e = unless (stands_at l side p o) 1 (remaining o) (omega arith) e
      go None e = refl

-- whether an order stands there or none
pub one_tick : (w : Wanted) (b : List ℕ) (k p : ℕ) → p < all_prices → w.from ≡ ticks_to w.side p → w.to ≡ w.from + 1
    → ((best_in w b k).shares ≡ total (shares_at w.locate.0 w.side p) b k)
    × ((best_in w b k).orders ≡ total (orders_at w.locate.0 w.side p) b k)
one_tick w b k p small start end = go (nat_lt (first_in w b k) w.to) refl
  where
    back : price_at w.side w.from ≡ p
    back = ap (price_at w.side) start ∙ price_ticks w.side p small

    go : (c : Bool) → nat_lt (first_in w b k) w.to ≡ c
        → (cond c (shares_on w b k (first_in w b k)) 0 ≡ total (shares_at w.locate.0 w.side p) b k)
        × (cond c (orders_on w b k (first_in w b k)) 0 ≡ total (orders_at w.locate.0 w.side p) b k)
    go true e =
        let m = ltb-true (first_in w b k) w.to e in
        let f = stands_first b k w.locate.0 w.side w.from w.to m in
        let i : first_in w b k ≡ w.from = omega (arith, f.0) in
        rw (i, back) (refl, refl)
    go false e =
        let m = ltb-false (first_in w b k) w.to e in
        let i : first_in w b k ≡ w.to = omega (arith, first-le b k w.locate.0 w.side w.from w.to) in
        let none : total (orders_at w.locate.0 w.side p) b k ≡ 0 =
        rw back at (stands_none b k w.locate.0 w.side w.from w.to i w.from (omega arith) (omega arith)) in
        (sym (no_orders b k w.locate.0 w.side p none), sym none)
