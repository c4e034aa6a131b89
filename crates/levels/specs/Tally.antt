-- A pass keeps the best price so far of the orders that it has seen and that are wanted. Said of any sum F that grows by each
-- order's weight: neither slots nor how many of them stand here, but for `sees`, which says it of a pass. Assumes nothing.
use Rattle.std.specs.Prelude.{◌≡◌, ℕ, zero, suc, ◌+◌, ◌<◌, ◌≤◌, Bool, true, false, cond, ◌&&◌, ltb, ◌≢◌, List, ◌==◌, nat_eq, nat_le, nat_lt, Option, Some, None}
use Rattle.std.proofs.Math.Path.{refl}
use Rattle.std.proofs.Common.{sym, ◌∙◌, ⊎_elim, arith, eq-eqb, ne_eqb, eqb-true, ltb-true, ltb-false, leb-true}
use Rattle.std.proofs.lemmas.Bool.{eqb-false}
use Rattle.laws.specs.Bools.{and_left, and_right, and_both}
use Rattle.laws.specs.Definitions.{sum_to}
use Rattle.orders.specs.declared.Order.{Order}
use Rattle.orders.specs.Order.{remaining}
use Rattle.slots.specs.Stored.{held_at}
use Rattle.levels.specs.declared.Wanted.{Wanted}
use Rattle.levels.specs.declared.Best.{Best}
use Rattle.levels.specs.Levels.{same_side, unsoundness}
use Rattle.levels.specs.Ticks.{ticks_to}
use Rattle.levels.specs.Totals.{weighed}
use Rattle.levels.specs.TotalLaws.{live_cases, more_free, more-live}
use Rattle.levels.specs.Visits.{is_wanted, joined, considered, seen, visited}

-- ---- the best of a tally

-- x leads the tally of shares S and orders C at each tick: the first tick below `to` with an order, or `to`
pub record Leads (S C : ℕ → ℕ) (from to : ℕ) (x : Best) : Type 0 where
  pub most : x.ticks ≤ to
  pub shares : x.shares ≡ S x.ticks
  pub orders : x.orders ≡ C x.ticks
  pub here : x.ticks < to → (from ≤ x.ticks) × (0 < C x.ticks)
  pub before : (j : ℕ) → j < x.ticks → (S j ≡ 0) × (C j ≡ 0)

-- S' is S with r more at the tick t
record Adds (S S' : ℕ → ℕ) (t r : ℕ) : Type 0 where
  own : S' t ≡ S t + r
  other : (j : ℕ) → t ≢ j → S' j ≡ S j

-- one that is the same at each tick has the same best
stays : {S S' C C' : ℕ → ℕ} {from to : ℕ} {x : Best} → ((i : ℕ) → S' i ≡ S i) → ((i : ℕ) → C' i ≡ C i)
    → Leads S C from to x → Leads S' C' from to x
stays {x = x} p q l = record {
  most = l.most;
  shares = l.shares ∙ sym (p x.ticks);
  orders = l.orders ∙ sym (q x.ticks);
  here = λ h. ((l.here h).0, omega (arith, q x.ticks, (l.here h).1));
  before = λ j h. (p j ∙ (l.before j h).0, q j ∙ (l.before j h).1);
}

module _ {S S' C C' : ℕ → ℕ} {from to t r : ℕ} {x : Best} (late : from ≤ t) (early : t < to)
    (p : Adds S S' t r) (q : Adds C C' t 1) (l : Leads S C from to x) where
  none_still : (j : ℕ) → t ≢ j → j < x.ticks → (S' j ≡ 0) × (C' j ≡ 0)
  none_still j d m = (p.other j d ∙ (l.before j m).0, q.other j d ∙ (l.before j m).1)

  better : t < x.ticks → Leads S' C' from to (record { ticks = t; shares = r; orders = 1 })
  better h = record {
    most = omega arith;
    shares = omega (arith, p.own, (l.before t h).0);
    orders = omega (arith, q.own, (l.before t h).1);
    here = λ _. (late, omega (arith, q.own));
    before = λ j m. none_still j (λ e. omega arith) (omega arith);
  }

  as_good : t ≡ x.ticks → Leads S' C' from to (record { ticks = t; shares = x.shares + r; orders = x.orders + 1 })
  as_good e = record {
    most = omega arith;
    shares = rw (l.shares, ← e, p.own);
    orders = rw (l.orders, ← e, q.own);
    here = λ _. (late, omega (arith, q.own));
    before = λ j m. none_still j (λ e. omega arith) (omega arith);
  }

  worse : x.ticks < t → Leads S' C' from to x
  worse h =
      let d : t ≢ x.ticks = λ e. omega arith in
      record {
        most = l.most;
        shares = l.shares ∙ sym (p.other x.ticks d);
        orders = l.orders ∙ sym (q.other x.ticks d);
        here = λ m. ((l.here m).0, omega (arith, q.other x.ticks d, (l.here m).1));
        before = λ j m. none_still j (λ e. omega arith) m;
      }

  joins : Leads S' C' from to (joined x t r)
  joins = go (nat_lt t x.ticks) refl (t == x.ticks) refl
    where
      go : (c : Bool) → nat_lt t x.ticks ≡ c → (d : Bool) → (t == x.ticks) ≡ d
          → Leads S' C' from to
          (cond c (record { ticks = t; shares = r; orders = 1 })
          (cond d (record { ticks = t; shares = x.shares + r; orders = x.orders + 1 }) x))
      go true e d f = better (ltb-true t x.ticks e)
      go false e true f = as_good (eqb-true t x.ticks f)
      go false e false f = worse (omega (arith, ltb-false t x.ticks e, eqb-false t x.ticks f))

-- ---- what a pass sees

-- how many ticks the order is from the best price possible of the side that is wanted
abbrev pub away : Wanted → Order → ℕ
away w o = ticks_to w.side o.price.0

-- wanted, and i ticks away
abbrev pub wanted_at : Wanted → ℕ → Order → Bool
wanted_at w i o = is_wanted w o && away w o == i

-- f of such an order, and of no other
abbrev pub of_wanted : Wanted → (Order → ℕ) → ℕ → Option Order → ℕ
of_wanted w f i (Some o) = cond (wanted_at w i o) (f o) 0
of_wanted w f i None = 0

-- x is the best of the orders wanted, by the sums F of their weights
abbrev pub BestBy : Wanted → ((Option Order → ℕ) → ℕ) → Best → Type 0
BestBy w F x = Leads (λ i. F (of_wanted w remaining i)) (λ i. F (of_wanted w (λ o. 1) i)) w.from w.to x

pub data Sees (w : Wanted) (F : (Option Order → ℕ) → ℕ) : Option Best → Type 0 where
  saw_unsound : 0 < F unsoundness → Sees w F None
  saw_sound : (x : Best) → F unsoundness ≡ 0 → BestBy w F x → Sees w F (Some x)

-- an order that is wanted is not before `from`, and below `to`
pub wanted_inside : (w : Wanted) (o : Order) → is_wanted w o ≡ true → (w.from ≤ away w o) × (away w o < w.to)
wanted_inside w o e =
    let same = nat_eq o.locate.0 w.locate.0 in
    let side = same_side o.side w.side in
    let late = nat_le w.from (away w o) in
    let early = ltb (away w o) w.to in
    let both = and_right side (late && early) (and_right same (side && (late && early)) e) in
    (leb-true _ _ (and_left late early both), ltb-true _ _ (and_right late early both))

-- each sum grows by the weight of h
record Grows (F F' : (Option Order → ℕ) → ℕ) (h : Option Order) : Type 0 where
  by : (f : Option Order → ℕ) → F' f ≡ F f + f h

module _ (w : Wanted) {F F' : (Option Order → ℕ) → ℕ} (o : Order) (g : Grows F F' (Some o)) where
  adds : (f : Order → ℕ) (i : ℕ) → wanted_at w i o ≡ true → F' (of_wanted w f i) ≡ F (of_wanted w f i) + f o
  adds f i e = g.by (of_wanted w f i) ∙ rw e

  keeps : (f : Order → ℕ) (i : ℕ) → wanted_at w i o ≡ false → F' (of_wanted w f i) ≡ F (of_wanted w f i)
  keeps f i e = g.by (of_wanted w f i) ∙ rw e (omega arith)

  wanted : (f : Order → ℕ) → is_wanted w o ≡ true
      → Adds (λ i. F (of_wanted w f i)) (λ i. F' (of_wanted w f i)) (away w o) (f o)
  wanted f e = record {
    own = adds f (away w o) (and_both (is_wanted w o) (away w o == away w o) e (eq-eqb (away w o) (away w o) refl));
    other = λ j d. keeps f j (rw (e, ne_eqb (away w o) j d));
  }

  considers : {x : Best} → BestBy w F x → BestBy w F' (considered w x o)
  unfolding considered
  considers {x} l = go (is_wanted w o) refl
    where
      go : (c : Bool) → is_wanted w o ≡ c → BestBy w F' (cond c (joined x (away w o) (remaining o)) x)
      go true e =
          let i = wanted_inside w o e in
          joins i.0 i.1 (wanted remaining e) (wanted (λ o. 1) e) l
      go false e = stays (λ i. keeps remaining i (rw e)) (λ i. keeps (λ o. 1) i (rw e)) l

-- nothing more: it sees the same
same : {w : Wanted} {F F' : (Option Order → ℕ) → ℕ} {p : Option Best} → ((f : Option Order → ℕ) → F' f ≡ F f) → Sees w F p → Sees w F' p
same e (saw_unsound h) = saw_unsound (omega (arith, e unsoundness))
same e (saw_sound x z l) = saw_sound x (e unsoundness ∙ z) (stays (λ i. e _) (λ i. e _) l)

-- what a live slot holds more
sees_more : {w : Wanted} {F F' : (Option Order → ℕ) → ℕ} {p : Option Best} → Sees w F p → (h : Option Order) → Grows F F' h → Sees w F' (seen w p h)
sees_more (saw_unsound l) h g = saw_unsound (omega (arith, g.by unsoundness))
sees_more (saw_sound x z l) None g = saw_unsound (omega (arith, g.by unsoundness))
sees_more {w} (saw_sound x z l) (Some o) g = saw_sound (considered w x o) (omega (arith, g.by unsoundness)) (considers w o g l)

-- after n slots
pub sees : (w : Wanted) (b : List ℕ) (k n : ℕ) → Sees w (λ f. sum_to (weighed f b k) n) (visited w b k n)
unfolding visited sum_to
sees w b k zero = saw_sound (record { ticks = w.to; shares = 0; orders = 0 }) refl (record {
  most = omega arith;
  shares = refl;
  orders = refl;
  here = λ h. absurd (omega arith);
  before = λ j h. (refl, refl);
})
sees w b k (suc n) = ⊎_elim
    (λ e. rw e (same (λ f. more_free f b k n e) (sees w b k n)))
    (λ e. rw e (sees_more (sees w b k n) (held_at b k n) (record { by = λ f. more-live f b k n e })))
    (live_cases b n)
