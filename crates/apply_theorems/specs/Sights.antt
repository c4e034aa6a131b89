-- What is found in the tables, in 01's words, one type for each search with a case for each of its answers: `sight` for the order
-- with a reference, `room` for a free slot. Assumes nothing.
use Rattle.std.specs.Prelude.{◌≡◌, refl, Bool, true, false, List, ℕ, ◌*◌, ◌≤◌, ◌<◌, Option, Some, None}
use Rattle.std.proofs.Common.{sym, ap, ◌∙◌, ⊎_elim, arith}
use Rattle.std.proofs.lemmas.Bool.{false≢true}
use Rattle.laws.specs.Bools.{cases, true_not_false}
use Rattle.laws.specs.Least.{least_none, lt-or-le}
use Rattle.laws.specs.Definitions.{least}
use Rattle.kinds.specs.declared.Slot.{Slot}
use Rattle.book.specs.Book.{live, holds, is_free, found_below, find, lowest_free}
use Rattle.book.specs.Finds.{holds_yes, holds-live, holds_same, find_at, found_slot, nowhere, below_yes, below_no, free_yes, free_slot, full}
use Rattle.orders.specs.declared.Order.{Order}
use Rattle.decide.specs.Decide.{Seen, unseen, something}
use Rattle.slots.specs.Stored.{held_at, is_at, seen_in, slot_of}
use Rattle.apply_theorems.specs.Statements.{Lowest, IsLive, Full, Broken, IsOrder}

abbrev is_sound : Option Order → Bool
is_sound (Some o) = true
is_sound None = false

-- ---- the lowest live slot with a reference

pub lowest-live : {b : List ℕ} {k r s : ℕ} → Lowest b k r s → IsLive b k r
lowest-live {s = s} w = record { slot = s; inside = w.inside; alive = w.alive; holding = w.holding }

-- the lowest is what is found
lowest_found : {b : List ℕ} {k r s : ℕ} → Lowest b k r s → find b k r ≡ Some (record { 0 = s })
lowest_found {b} {k} {r} {s} w =
    sym
    (find_at b k r s w.inside
    (λ i l. ⊎_elim (λ e. absurd (w.before i l (holds-live b k r i e) (holds_same b k r i e))) (λ e. e) (cases (holds b k r i)))
    (holds_yes b k r s w.alive w.holding))

lowest_unique : {b : List ℕ} {k r s t : ℕ} → Lowest b k r s → Lowest b k r t → s ≡ t
lowest_unique w v = ap slot_of (sym (lowest_found w) ∙ lowest_found v)

-- a slot that is found is the least that passes the test
found_least : (p : ℕ → Bool) (n : ℕ) (s : Slot) → found_below n (least p n) ≡ Some s → (i : ℕ) → i < s.0 → p i ≡ false
found_least p n s e i l = ⊎_elim (λ h. least_none p n i (yes h)) (λ h. no h) (lt-or-le (least p n) n)
  where
    yes : least p n < n → i < least p n
    yes h = let q : least p n ≡ s.0 = ap slot_of (sym (below_yes n (least p n) h) ∙ e) in omega arith

    no : n ≤ least p n → p i ≡ false
    no h = absurd (false≢true (ap is_at (sym (below_no n (least p n) h) ∙ e)))

-- what is found is the lowest
found_lowest : (b : List ℕ) (k r : ℕ) (s : Slot) → find b k r ≡ Some s → Lowest b k r s.0
unfolding find
found_lowest b k r s e =
    let g = found_slot b k r s e in
    record {
      inside = g.0;
      alive = g.1;
      holding = g.2;
      before = λ i l a h. true_not_false (holds b k r i) (holds_yes b k r i a h) (found_least (holds b k r) (64 * k) s e i l);
    }

-- where nothing is found, the reference is not live
unfound : (b : List ℕ) (k r : ℕ) → find b k r ≡ None → IsLive b k r → ⊥
unfound b k r e w =
    true_not_false (holds b k r w.slot) (holds_yes b k r w.slot w.alive w.holding) (nowhere b k r e w.slot w.inside)

-- what a search for a reference gives
pub data Spot (b : List ℕ) (k r : ℕ) : Option Slot → Type 0 where
  nowhere_live : (IsLive b k r → ⊥) → Spot b k r None
  lowest_at : (s : Slot) → Lowest b k r s.0 → Spot b k r (Some s)

pub spot : (b : List ℕ) (k r : ℕ) → Spot b k r (find b k r)
spot b k r = go (find b k r) refl
  where
    go : (f : Option Slot) → find b k r ≡ f → Spot b k r f
    go None e = nowhere_live (unfound b k r e)
    go (Some s) e = lowest_at s (found_lowest b k r s e)

-- ---- what is seen of the order with a reference

-- the reference is not live; or s is its slot, and it is broken, or holds an order
pub data Sight (b : List ℕ) (k r : ℕ) : ℕ → Seen → Type 0 where
  found_nothing : (IsLive b k r → ⊥) → Sight b k r 0 unseen
  found_unsound : (s : ℕ) → Lowest b k r s → held_at b k s ≡ None → Sight b k r s (something None)
  found_order : (s : ℕ) (o : Order) → Lowest b k r s → held_at b k s ≡ Some o → Sight b k r s (something (Some o))

pub sight : (b : List ℕ) (k r : ℕ) → Sight b k r (slot_of (find b k r)) (seen_in b k (find b k r))
sight b k r = go (spot b k r)
  where
    holding : (s : ℕ) → Lowest b k r s → (h : Option Order) → held_at b k s ≡ h → Sight b k r s (something h)
    holding s w None e = found_unsound s w e
    holding s w (Some o) e = found_order s o w e

    go : {f : Option Slot} → Spot b k r f → Sight b k r (slot_of f) (seen_in b k f)
    go (nowhere_live n) = found_nothing n
    go (lowest_at s w) = holding s.0 w (held_at b k s.0) refl

-- what the slot concerned holds is one thing: no other order, and it is not broken where it holds an order
held_once : {b : List ℕ} {k r s t : ℕ} {h g : Option Order}
    → Lowest b k r s → held_at b k s ≡ h → Lowest b k r t → held_at b k t ≡ g → h ≡ g
held_once {b} {k} w e v f = sym e ∙ ap (held_at b k) (lowest_unique w v) ∙ f

pub order_unique : {b : List ℕ} {k r : ℕ} {o o' : Order} → IsOrder b k r o → IsOrder b k r o' → o ≡ o'
order_unique i j = let q = held_once i.lowest i.sound j.lowest j.sound in cc

pub order_sound : {b : List ℕ} {k r : ℕ} {o : Order} → IsOrder b k r o → Broken b k r → ⊥
order_sound i x = false≢true (ap is_sound (held_once x.lowest x.unsound i.lowest i.sound))

-- ---- the lowest free slot

-- none is found exactly where no slot is free
pub data Room (b : List ℕ) (k : ℕ) : Option Slot → Type 0 where
  no_room : Full b k → Room b k None
  some_room : (s : Slot) → s.0 < 64 * k → live b s.0 ≡ 0 → Room b k (Some s)

pub room : (b : List ℕ) (k : ℕ) → Room b k (lowest_free b k)
room b k = go (lowest_free b k) refl
  where
    go : (f : Option Slot) → lowest_free b k ≡ f → Room b k f
    go None e = no_room (λ i l q. true_not_false (is_free b i) (free_yes b i q) (full b k e i l))
    go (Some s) e = let g = free_slot b k s e in some_room s g.0 g.1
