-- What a glance at a live slot makes of what was seen: an unsound slot, one that changes nothing, one that joins the best so far.
-- Assumes nothing.
use Rattle.std.specs.Prelude.{◌≡◌, ℕ, ◌≤◌, Bool, true, false, cond, ◌&&◌, nat_le, Option, Some, None}
use Rattle.std.proofs.Math.Path.{refl}
use Rattle.std.proofs.Common.{arith}
use borrow.Author.Tests.{ne_eqb, leb-true, leb-false, le-ltb}
use Rattle.orders.specs.Order.{remaining}
use Rattle.levels.specs.declared.Wanted.{Wanted}
use Rattle.levels.specs.declared.Best.{Best}
use Rattle.levels.specs.declared.Glimpse.TheVariants as glimpse
use Rattle.levels.specs.Ticks.{ticks_to}
use Rattle.levels.specs.Visits.{is_wanted, joined, considered, seen}
use Rattle.levels.specs.Glances.{matters, glanced}
use Rattle.orders.specs.declared.Order.{Order}

pub unsound_seen : (w : Wanted) (most : ℕ) (h : Option Order) → glanced w most h ≡ glimpse.Unsound → h ≡ None
unfolding glanced
unsound_seen w most None e = refl
unsound_seen w most (Some o) e = go (matters w most o) e
  where
    go : (t : Bool) → cond t (glimpse.Stands (ticks_to w.side o.price.0) (remaining o)) glimpse.Other ≡ glimpse.Unsound
        → Some o ≡ None
    go true e = let z : ◌≡◌ {A = ℕ} 0 1 = cc in absurd (omega arith)
    go false e = let z : ◌≡◌ {A = ℕ} 0 1 = cc in absurd (omega arith)

module _ (w : Wanted) (best : Best) where
  -- nothing: not wanted, or worse than the best so far
  pub other_seen : (h : Option Order) → glanced w best.ticks h ≡ glimpse.Other → seen w (Some best) h ≡ Some best
  unfolding considered glanced
  other_seen None e = let z : ◌≡◌ {A = ℕ} 0 1 = cc in absurd (omega arith)
  other_seen (Some o) e = go (is_wanted w o) (nat_le (ticks_to w.side o.price.0) best.ticks) refl e
    where
      go : (t u : Bool) → nat_le (ticks_to w.side o.price.0) best.ticks ≡ u
          → cond (t && u) (glimpse.Stands (ticks_to w.side o.price.0) (remaining o)) glimpse.Other ≡ glimpse.Other
          → Some (cond t (joined best (ticks_to w.side o.price.0) (remaining o)) best) ≡ Some best
      go true true n e = let z : ◌≡◌ {A = ℕ} 0 1 = cc in absurd (omega arith)
      go true false n e =
          let l = leb-false (ticks_to w.side o.price.0) best.ticks n in
          rw (le-ltb (ticks_to w.side o.price.0) best.ticks (omega arith), ne_eqb (ticks_to w.side o.price.0) best.ticks (λ q. omega arith))
      go false u n e = refl

  -- wanted, and no worse
  pub stands_seen : (h : Option Order) (ticks shares : ℕ) → glanced w best.ticks h ≡ glimpse.Stands ticks shares
      → (seen w (Some best) h ≡ Some (joined best ticks shares)) × (ticks ≤ best.ticks)
  unfolding considered glanced
  stands_seen None ticks shares e = let z : ◌≡◌ {A = ℕ} 0 1 = cc in absurd (omega arith)
  stands_seen (Some o) ticks shares e = go (is_wanted w o) (nat_le (ticks_to w.side o.price.0) best.ticks) refl e
    where
      go : (t u : Bool) → nat_le (ticks_to w.side o.price.0) best.ticks ≡ u
          → cond (t && u) (glimpse.Stands (ticks_to w.side o.price.0) (remaining o)) glimpse.Other ≡ glimpse.Stands ticks shares
          → (Some (cond t (joined best (ticks_to w.side o.price.0) (remaining o)) best) ≡ Some (joined best ticks shares))
          × (ticks ≤ best.ticks)
      go true true n e =
          let s : ticks ≡ ticks_to w.side o.price.0 = cc in
          let q : shares ≡ remaining o = cc in
          let l = leb-true (ticks_to w.side o.price.0) best.ticks n in
          rw (s, q) (refl, l)
      go true false n e = let z : ◌≡◌ {A = ℕ} 0 1 = cc in absurd (omega arith)
      go false u n e = let z : ◌≡◌ {A = ℕ} 0 1 = cc in absurd (omega arith)
