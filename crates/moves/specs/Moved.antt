-- The law of a step, from a verdict's facts (`moves`): what the verdict takes out of a total and what it puts in. What stays is the
-- book with the old order's slot cleared. Assumes nothing.
use Rattle.std.specs.Prelude.{◌≡◌, ◌≢◌, Bool, true, false, cond, List, eqb, Option, Some}
use Rattle.std.proofs.Math.Path.{refl}
use Rattle.std.proofs.Common.{sym, ap, subst, ◌∙◌, arith}
use Prim.Native.Nat.{ℕ, ◌+◌}
use Rattle.std.proofs.lemmas.Bool.{eqb-false}
use Rattle.kinds.specs.declared.Slot.{Slot}
use Rattle.book.specs.Book.{find, lowest_free, clear_slot}
use Rattle.book.specs.Finds.{free_slot}
use Rattle.book.specs.Shape.{Sized}
use Rattle.book.specs.Slots.{clear_sized}
use Rattle.orders.specs.declared.Order.{Order}
use Rattle.orders.specs.Order.{remaining}
use Rattle.orders.specs.OrderLaws.{Fit}
use Rattle.decide.specs.Decide.{Verdict, refuse, enter, alter, leave, renew, enroll, pass}
use Rattle.slots.specs.Stored.{entered, kept, put_order, slot_of, stored}
use Rattle.levels.specs.Totals.{total}
use Rattle.steps.specs.Asked.{Asked}
use Rattle.steps.specs.Steps.{slot_sought}
use Rattle.moves.specs.Moves.{taken_out, put_in, Moved}
use Rattle.moves.specs.TotalMoves.{put-total, put_free_total, clear_total, clear_held_total}
use Rattle.moves.specs.Facts.{Rests, Facts}
use Rattle.moves.specs.Altered.{altered_fit}
use Rattle.moves.specs.Kept.{stored-length}

-- an order that enters adds its weight
pub entered-total : (w : Option Order → ℕ) (b : List ℕ) (k : ℕ) (o : Order) (s : Slot) → Sized b k → Fit o → lowest_free b k ≡ Some s
    → total w (entered b k o) k ≡ total w b k + w (Some o)
unfolding entered
entered-total w b k o s z f e =
    let g = free_slot b k s e in
    rw e (put_free_total b k s.0 z g.0 o w f g.1)

-- ---- where an order rests in a slot

module _ {b : List ℕ} {k r : ℕ} {o : Order} (z : Sized b k) (i : Rests b k r o) where
  -- the book without it
  pub left_total : (w : Option Order → ℕ) → total w (clear_slot b k i.slot.0) k + w (Some o) ≡ total w b k
  left_total w = clear_held_total b k i.slot.0 z i.inside w o i.alive i.holding

  -- kept as o', or gone where nothing remains of that
  pub kept-total : (w : Option Order → ℕ) (o' : Order) → (remaining o' ≢ 0 → Fit o')
      → total w (kept b k i.slot.0 o') k ≡ total w (clear_slot b k i.slot.0) k + cond (eqb (remaining o') 0) 0 (w (Some o'))
  unfolding kept
  kept-total w o' f = go (eqb (remaining o') 0) refl
    where
      s : ℕ
      s = i.slot.0

      go : (t : Bool) → eqb (remaining o') 0 ≡ t
          → total w (cond t (clear_slot b k s) (put_order b k s o')) k ≡ total w (clear_slot b k s) k + cond t 0 (w (Some o'))
      go true e = omega arith
      go false e =
          omega (arith, put-total b k s z i.inside o' w (f (eqb-false (remaining o') 0 e)), clear_total b k s z i.inside w)

-- ---- a verdict with its facts

-- nothing moves
still : {b : List ℕ} {k : ℕ} {v : Verdict} → ((w : Option Order → ℕ) → taken_out w v ≡ 0) → ((w : Option Order → ℕ) → put_in w v ≡ 0) → Moved b b k v
still {b} {k} out put =
    record { size = refl; rest = λ w. total w b k; took = λ w. omega (arith, out w); gave = λ w. omega (arith, put w) }

-- the order that rests under r is taken out of its slot, the one that was named
out_of : {b : List ℕ} {k r : ℕ} {o : Order} (v : Verdict) (named : ℕ) → Sized b k → (i : Rests b k r o) → named ≡ slot_of (find b k r)
    → ((w : Option Order → ℕ) → taken_out w v ≡ w (Some o))
    → ((w : Option Order → ℕ) → total w (stored b k i.slot.0 v) k ≡ total w (clear_slot b k i.slot.0) k + put_in w v)
    → Moved b (stored b k named v) k v
out_of {b} {k} v named z i at out put =
    let s = i.slot.0 in
    subst (λ (x : ℕ). Moved b (stored b k x v) k v) (sym (at ∙ ap slot_of i.found))
    (record {
      size = stored-length b k s v;
      rest = λ w. total w (clear_slot b k s) k;
      took = λ w. omega (arith, out w, left_total z i w);
      gave = put;
    })

module _ (d b : List ℕ) (k : ℕ) (a : Asked) (z : Sized b k) where
  -- a verdict with its facts moves what it takes out and puts in
  pub moves : (v : Verdict) → Facts d b k a v → Moved b (stored b k (slot_sought b k a) v) k v
  moves (refuse n) f = still (λ w. refl) (λ w. refl)
  moves (enter o) f =
      record {
        size = stored-length b k (slot_sought b k a) (enter o);
        rest = λ w. total w b k;
        took = λ w. omega arith;
        gave = λ w. entered-total w b k o f.slot z f.fit f.free;
      }
  moves (alter o o' n) f =
      out_of (alter o o' n) (slot_sought b k a) z f.rests (ap (slot_sought b k) f.asks) (λ w. refl) λ w.
      kept-total z f.rests w o' (altered_fit f)
  moves (leave o) f =
      out_of (leave o) (slot_sought b k a) z f.rests (ap (slot_sought b k) f.asks) (λ w. refl) λ w. omega arith
  moves (renew o o') f =
      let s = f.rests.slot.0 in
      out_of (renew o o') (slot_sought b k a) z f.rests (ap (slot_sought b k) f.asks) (λ w. refl) λ w.
      entered-total w (clear_slot b k s) k o' f.slot (clear_sized b k s z) f.fit f.free
  moves (enroll l symbol) f = still (λ w. refl) (λ w. refl)
  moves pass f = still (λ w. refl) (λ w. refl)
