-- In a healthy book there is one order at most under a reference, and the order question shows what remains of it. Assumes nothing.
use Rattle.std.specs.Prelude.{◌≡◌, ◌≢◌, Bool, eqb, Option, Some, None}
use Rattle.std.proofs.Math.Path.{refl, ap}
use Rattle.std.proofs.Common.{sym, subst, ◌∙◌, ⊎_elim, arith, eq-eqb, ne_eqb}
use Rattle.std.proofs.Math.Bool.{cond}
use mathlib.Core.List.{List}
use Prim.Native.Nat.{ℕ}
use Rattle.laws.specs.Bools.{true_not_false}
use Rattle.laws.specs.Least.{same_or}
use Rattle.kinds.specs.declared.Slot.{Slot}
use Rattle.book.specs.Book.{live, number_at, holds, find, clear_slot}
use Rattle.book.specs.Finds.{holds_yes, found_slot, nowhere}
use Rattle.book.specs.Slots.{clear_changed}
use Rattle.orders.specs.declared.Order.{Order}
use Rattle.orders.specs.Order.{remaining}
use Rattle.orders.specs.OrderLaws.{held-numbers}
use Rattle.slots.specs.Stored.{held_at, seen_in}
use Rattle.apply.specs.Runs.{Tables}
use Rattle.accounts.specs.Accounts.{accounted, order_asked}
use Rattle.levels.specs.Totals.{total}
use Rattle.levels.specs.TotalLaws.{none_total}
use Rattle.apply_theorems.specs.Means.{shaped_words}
use Rattle.moves.specs.TotalMoves.{clear_held_total}
use Rattle.runs.specs.Statements.{Start, Healthy, remains_shown}
use Rattle.runs.specs.Healthy.{healthy_shaped, healthy_sized}

-- what remains of an order, if its reference is r
abbrev pub only_of : ℕ → Option Order → ℕ
only_of r (Some o) = cond (eqb o.reference.0 r) (remaining o) 0
only_of r None = 0

module _ (r : ℕ) where
  -- ---- what is under a reference

  -- the weight of an order whose reference and remaining shares are known
  pub weighs : (o : Order) (s n : ℕ) → o.reference.0 ≡ s → remaining o ≡ n → only_of r (Some o) ≡ cond (eqb s r) n 0
  weighs o s n e q = ap (λ (x : ℕ). cond (eqb x r) (remaining o) 0) e ∙ ap (λ (x : ℕ). cond (eqb s r) x 0) q

  -- a live slot weighs nothing where its reference is another
  other_weighs : (b : List ℕ) (k s : ℕ) → number_at b k s 0 ≢ r → only_of r (held_at b k s) ≡ 0
  unfolding held_at
  other_weighs b k s d = go (held_at b k s) refl
    where
      go : (h : Option Order) → held_at b k s ≡ h → only_of r h ≡ 0
      go None e = refl
      go (Some o) e = rw (ne_eqb o.reference.0 r (λ q. d (sym (held-numbers _ _ _ _ o e).0 ∙ q)))

  -- nothing is left under a reference that is not found
  unknown_total : (b : List ℕ) (k : ℕ) → find b k r ≡ None → total (only_of r) b k ≡ 0
  unknown_total b k e =
      none_total (only_of r) b k λ s l a.
      other_weighs b k s λ q. true_not_false (holds b k r s) (holds_yes b k r s a q) (nowhere b k r e s l)

  pub same_unknown : (b : List ℕ) (k s : ℕ) → find b k s ≡ None → s ≡ r → total (only_of r) b k ≡ 0
  same_unknown b k s e q = unknown_total b k (subst (λ (x : ℕ). find b k x ≡ None) q e)

  -- ---- what the question shows

  -- where the reference is found, no other live slot has it
  elsewhere : (n k : ℕ) (t : Tables) → Start n k → Healthy n k t → (s : Slot) → find t.book k r ≡ Some s
      → total (only_of r) (clear_slot t.book k s.0) k ≡ 0
  elsewhere n k t i h s e =
      let b = t.book in
      let c = clear_slot b k s.0 in
      let g = found_slot b k r s e in
      let u = clear_changed b k s.0 h.book_length g.0 in
      none_total (only_of r) c k λ v l a. ⊎_elim
      (λ (p : v ≡ s.0). absurd (omega (arith, a, ap (live c) p, u.bit_at)))
      (λ (p : v ≡ s.0 → ⊥). other_weighs c k v λ y.
      p (h.apart v s.0 l g.0 (sym (u.bit_off v l p) ∙ a) g.1 (sym (u.num_off v 0 p (omega arith)) ∙ y ∙ sym g.2)))
      (same_or v s.0)

  -- so its order's shares are all that is left
  found_total : (n k : ℕ) (t : Tables) → Start n k → Healthy n k t → (s : Slot) (o : Order) → find t.book k r ≡ Some s
      → held_at t.book k s.0 ≡ Some o → total (only_of r) t.book k ≡ remaining o
  unfolding held_at
  found_total n k t i h s o e q =
      let b = t.book in
      let z = healthy_sized i h in
      let g = found_slot b k r s e in
      let w = weighs o r (remaining o) ((held-numbers _ _ _ _ o q).0 ∙ g.2) refl in
      let one = ap (λ (x : Bool). cond x (remaining o) 0) (eq-eqb r r refl) in
      omega (arith, elsewhere n k t i h s e, w, one, clear_held_total b k s.0 z g.0 (only_of r) o g.1 q)

  -- the order question shows what is left under the reference
  pub order_shown : (n k : ℕ) (t : Tables) → Start n k → Healthy n k t → remains_shown (order_asked t.book r) ≡ total (only_of r) t.book k
  unfolding order_asked
  order_shown n k t i h =
      rw (shaped_words (healthy_shaped i h)) (rw (ne_eqb k 0 (λ e. omega (arith, i.book.some))) (go (find b k r) refl))
    where
      b : List ℕ
      b = t.book

      sound : (s : Slot) → find b k r ≡ Some s → (o : Order) × (held_at b k s.0 ≡ Some o)
      sound s e = let g = found_slot b k r s e in let x = h.sound s.0 g.0 g.1 in (x.0, x.1)

      go : (f : Option Slot) → find b k r ≡ f → remains_shown (accounted (seen_in b k f)) ≡ total (only_of r) b k
      go None e = sym (unknown_total b k e)
      go (Some s) e = let x = sound s e in rw x.1 (sym (found_total n k t i h s x.0 e x.1))
