-- What is seen under a reference is told by totals: the weight `is_order o` counts the live orders with the four numbers of o, and in
-- healthy books it is 1 exactly where o is what is found. Assumes nothing.
use Rattle.std.specs.Prelude.{◌≡◌, refl, Bool, true, false, cond, ◌&&◌, List, ℕ, ◌*◌, ◌<◌, eqb, Option, Some, None}
use Rattle.std.proofs.Common.{sym, ap, ◌∙◌, ⊎_elim, arith, eq-eqb, ne_eqb, eqb-true}
use Rattle.laws.specs.Bools.{and_left, and_right, true_not_false}
use Rattle.laws.specs.Least.{same_or}
use Rattle.kinds.specs.declared.Slot.{Slot}
use Rattle.book.specs.Book.{live, number_at, holds, find}
use Rattle.book.specs.Finds.{holds_yes, found_slot, nowhere}
use Rattle.orders.specs.declared.Order.{Order}
use Rattle.orders.specs.Order.{second, third, fourth, held}
use Rattle.orders.specs.OrderLaws.{held-numbers}
use Rattle.decide.specs.Decide.{Seen, unseen, something}
use Rattle.slots.specs.Stored.{held_at, is_at, seen_in}
use Rattle.apply.specs.Runs.{Tables}
use Rattle.levels.specs.Totals.{total}
use Rattle.levels.specs.TotalLaws.{total_none, some_total}
use Rattle.runs.specs.Statements.{Healthy}

-- ---- the weight

-- the numbers of x, the reference aside, are those of o
abbrev same_rest : Order → Order → Bool
same_rest o x = eqb (second x) (second o) && (eqb (third x) (third o) && eqb (fourth x) (fourth o))

-- 1 where an order with the four numbers of o is held
abbrev pub is_order : Order → Option Order → ℕ
is_order o (Some x) = cond (eqb x.reference.0 o.reference.0 && same_rest o x) 1 0
is_order o None = 0

pub is_itself : (o : Order) → is_order o (Some o) ≡ 1
is_itself o =
    rw (itself o.reference.0, itself (second o), itself (third o), itself (fourth o))
  where
    itself : (i : ℕ) → eqb i i ≡ true
    itself i = eq-eqb i i refl

-- an order under another reference weighs nothing
pub is_other : (o x : Order) → (x.reference.0 ≡ o.reference.0 → ⊥) → is_order o (Some x) ≡ 0
is_other o x d = rw (ne_eqb x.reference.0 o.reference.0 d)

picked : (t : Bool) → 0 < cond t 1 0 → t ≡ true
picked true l = refl
picked false l = absurd (omega arith)

-- the reference of the order in a slot is the slot's number 0
pub held_reference : (b : List ℕ) (k s : ℕ) (o : Order) → held_at b k s ≡ Some o → o.reference.0 ≡ number_at b k s 0
unfolding held_at
held_reference b k s o e = (held-numbers _ _ _ _ o e).0

-- slots that hold orders with the same numbers hold the same
is_same : (b : List ℕ) (k s : ℕ) (c : List ℕ) (m u : ℕ) (o : Order) → held_at b k s ≡ Some o → 0 < is_order o (held_at c m u)
    → held_at c m u ≡ Some o
unfolding held_at
is_same b k s c m u o e l = go (held_at c m u) refl l
  where
    go : (h : Option Order) → held_at c m u ≡ h → 0 < is_order o h → held_at c m u ≡ Some o
    go None f l = absurd (omega arith)
    go (Some x) f l =
        let t = picked (eqb x.reference.0 o.reference.0 && same_rest o x) l in
        let t1 = and_right (eqb x.reference.0 o.reference.0) (same_rest o x) t in
        let t2 = and_right (eqb (second x) (second o)) (eqb (third x) (third o) && eqb (fourth x) (fourth o)) t1 in
        let q0 = eqb-true _ _ (and_left (eqb x.reference.0 o.reference.0) (same_rest o x) t) in
        let q1 = eqb-true _ _ (and_left (eqb (second x) (second o)) (eqb (third x) (third o) && eqb (fourth x) (fourth o)) t1) in
        let q2 = eqb-true _ _ (and_left (eqb (third x) (third o)) (eqb (fourth x) (fourth o)) t2) in
        let q3 = eqb-true _ _ (and_right (eqb (third x) (third o)) (eqb (fourth x) (fourth o)) t2) in
        let y = held-numbers (number_at b k s 0) (number_at b k s 1) (number_at b k s 2) (number_at b k s 3) o e in
        let z = held-numbers (number_at c m u 0) (number_at c m u 1) (number_at c m u 2) (number_at c m u 3) x f in
        let p0 : number_at c m u 0 ≡ number_at b k s 0 = sym z.0 ∙ q0 ∙ y.0 in
        let p1 : number_at c m u 1 ≡ number_at b k s 1 = sym z.1 ∙ q1 ∙ y.1 in
        let p2 : number_at c m u 2 ≡ number_at b k s 2 = sym z.2 ∙ q2 ∙ y.2 in
        let p3 : number_at c m u 3 ≡ number_at b k s 3 = sym z.3 ∙ q3 ∙ y.3 in
        (λ i. held (p0 i) (p1 i) (p2 i) (p3 i)) ∙ e

-- ---- totals

-- a live slot whose weight is not 0 makes the total not 0
weighs : (w : Option Order → ℕ) (b : List ℕ) (k s : ℕ) → s < 64 * k → live b s ≡ 1 → 0 < w (held_at b k s) → 0 < total w b k
weighs w b k s l a p =
    ⊎_elim
    (λ (z : total w b k ≡ 0). absurd (omega (arith, total_none w b k z s l a)))
    (λ (d : total w b k ≡ 0 → ⊥). omega arith)
    (same_or (total w b k) 0)

-- the orders under r are the same in both books
abbrev pub SameUnder : ℕ → List ℕ → ℕ → List ℕ → ℕ → Type 0
SameUnder r b k c m = (o : Order) → o.reference.0 ≡ r → total (is_order o) b k ≡ total (is_order o) c m

-- what is found in the one is seen in the other
sees : (n k n' m : ℕ) (t u : Tables) (r : ℕ) → Healthy n k t → Healthy n' m u → SameUnder r t.book k u.book m
    → (s : Slot) → find t.book k r ≡ Some s → seen_in u.book m (find u.book m r) ≡ something (held_at t.book k s.0)
sees n k n' m t u r hb hc same s e = go (find c m r) refl
  where
    b : List ℕ
    b = t.book

    c : List ℕ
    c = u.book

    g : (s.0 < 64 * k) × (live b s.0 ≡ 1) × (number_at b k s.0 0 ≡ r)
    g = found_slot b k r s e

    o : Order
    o = (hb.sound s.0 g.0 g.1).0

    holding : held_at b k s.0 ≡ Some o
    holding = (hb.sound s.0 g.0 g.1).1

    under : o.reference.0 ≡ r
    under = held_reference b k s.0 o holding ∙ g.2

    here : 0 < total (is_order o) b k
    here = weighs (is_order o) b k s.0 g.0 g.1 (omega (arith, ap (is_order o) holding, is_itself o))

    there : (v : ℕ) × (v < 64 * m) × (live c v ≡ 1) × (0 < is_order o (held_at c m v))
    there = some_total (is_order o) c m (omega (arith, here, same o under))

    v : ℕ
    v = there.0

    holds_it : held_at c m v ≡ Some o
    holds_it = is_same b k s.0 c m v o holding there.3

    at_r : number_at c m v 0 ≡ r
    at_r = sym (held_reference c m v o holds_it) ∙ under

    go : (f : Option Slot) → find c m r ≡ f → seen_in c m f ≡ something (held_at b k s.0)
    go None q = absurd (true_not_false (holds c m r v) (holds_yes c m r v there.2 at_r) (nowhere c m r q v there.1))
    go (Some x) q =
        let y = found_slot c m r x q in
        let z : x.0 ≡ v = hc.apart x.0 v y.0 there.1 y.1 there.2 (y.2 ∙ sym at_r) in
        ap something (ap (held_at c m) z ∙ holds_it ∙ sym holding)

-- THE LAW: healthy books with the same orders under r show the same under r
pub seen_same : (n k n' m : ℕ) (t u : Tables) (r : ℕ) → Healthy n k t → Healthy n' m u → SameUnder r t.book k u.book m
    → seen_in t.book k (find t.book k r) ≡ seen_in u.book m (find u.book m r)
seen_same n k n' m t u r hb hc same = go (find t.book k r) refl (find u.book m r) refl
  where
    go : (f : Option Slot) → find t.book k r ≡ f → (g : Option Slot) → find u.book m r ≡ g → seen_in t.book k f ≡ seen_in u.book m g
    go (Some s) p g q = sym (ap (seen_in u.book m) (sym q) ∙ sees n k n' m t u r hb hc same s p)
    go None p (Some s) q = ap (seen_in t.book k) (sym p) ∙ sees n' m n k u t r hc hb (λ o e. sym (same o e)) s q
    go None p None q = refl

abbrev was_seen : Seen → Bool
was_seen unseen = false
was_seen (something h) = true

-- and so both are found, or neither
pub found_seen : (b : List ℕ) (k : ℕ) (c : List ℕ) (m : ℕ) (f g : Option Slot) → seen_in b k f ≡ seen_in c m g → is_at f ≡ is_at g
found_seen b k c m f g e = as_seen b k f ∙ ap was_seen e ∙ sym (as_seen c m g)
  where
    as_seen : (b : List ℕ) (k : ℕ) (f : Option Slot) → is_at f ≡ was_seen (seen_in b k f)
    as_seen b k (Some s) = refl
    as_seen b k None = refl
