-- The ways through a replacement where the original is here, over plain values: each is its verdict, its answer and its book. The
-- cleared slot is free, so the book is never full there. Assumes nothing.
use Rattle.refusals.specs.declared.Refusal.TheVariants.{Duplicate}
use Rattle.std.specs.Prelude.{Result, Some, None, Ok, Err}
use Prim.Native.Nat.{ℕ, ◌+◌, ◌*◌, ◌≤◌, ◌<◌}
use mathlib.Core.Path.{◌≡◌, refl, sym, ap, ◌∙◌}
use mathlib.Core.Bool.{Bool, true, false}
use mathlib.Core.List.{List}
use native.Mathlib.Omega.{arith}
use borrow.Author.Tests.{eq-eqb, ne_eqb}
use Rattle.kinds.specs.declared.Slot.{Slot}
use Rattle.book.specs.Book.{lowest_free, clear_slot}
use Rattle.book.specs.Shape.{Sized}
use Rattle.book.specs.Finds.{free_slot}
use Rattle.book.specs.Slots.{clear_sized, cleared_room}
use Rattle.orders.specs.declared.Order.{Order}
use Rattle.orders.specs.Order.{Intact, remaining, closed_of}
use Rattle.orders.specs.OrderLaws.{closed_remaining}
use Rattle.decide.specs.declared.Figures.{Figures}
use Rattle.decide.specs.declared.Step.TheVariants.{Two}
use Rattle.decide.specs.Decide.{renew, renewed, replacing_of}
use Rattle.decide.specs.Figured.{figures_of}
use Rattle.slots.specs.Stored.{put_order, entered, placed}
use Rattle.slots.specs.Stepped.{Stepped, refuses, settles}
use Rattle.decide.specs.declared.Step.{Step}
use Rattle.refusals.specs.declared.Refusal.{Refusal}

-- ---- one order out, another in

-- c is the book b with slot s cleared
module _ (b c : List ℕ) (k s : ℕ) (cleared : c ≡ clear_slot b k s) (z : Sized b k) where
  pub still_sized : Sized c k
  still_sized = rw cleared (clear_sized b k s z)

  -- it is never full
  pub has_room : s < 64 * k → lowest_free c k ≡ None → ⊥
  has_room l none =
      let room = (cleared_room b k s z l).1 in
      let n : ◌≡◌ {A = ℕ} 0 1 = cc in
      omega arith

  pub in_room : (t : Slot) → lowest_free c k ≡ Some t → Sized c k × (t.0 < 64 * k)
  in_room t e = (still_sized, (free_slot c k t e).0)

  pub renews : (o next end : Order) (t : Slot) (shares rest left : ℕ) (f g : Figures) {b' : List ℕ} → lowest_free c k ≡ Some t
      → shares ≡ remaining o → end ≡ closed_of o → rest ≡ remaining end → f ≡ figures_of o shares rest → left ≡ remaining next
      → g ≡ figures_of next next.added left → b' ≡ put_order c k t.0 next → Stepped b k s (renew o next) (Ok (Two f g)) b'
  unfolding entered
  renews o next end t shares rest left f g e p q r x l y w =
      settles refl (rw (x, r ∙ ap remaining q ∙ closed_remaining o, p, y, l))
      (w ∙ ap (placed c k next) (sym e) ∙ ap (λ (d : List ℕ). entered d k next) cleared)

-- ---- the new reference

module _ (b : List ℕ) (k s original new shares price : ℕ) (live : Bool) (o : Order) where
  pub itself : {r : Result Step Refusal} → new ≡ original → r ≡ Err Duplicate → Stepped b k s (replacing_of original new shares price live o) r b
  itself e f = refuses (rw (eq-eqb new original e)) f

  pub duplicate : {r : Result Step Refusal} → (new ≡ original → ⊥) → live ≡ true → r ≡ Err Duplicate
      → Stepped b k s (replacing_of original new shares price live o) r b
  duplicate d e f = refuses (rw (ne_eqb new original d, e)) f

  pub replaces : {r : Result Step Refusal} {b' : List ℕ} (next : Order) → (new ≡ original → ⊥) → live ≡ false → next ≡ renewed o new shares price
      → Stepped b k s (renew o next) r b' → Stepped b k s (replacing_of original new shares price live o) r b'
  replaces next d e f x = rw (ne_eqb new original d, e) (rw f at x)

-- nothing is gone of the order that starts
pub started_whole : (o next : Order) (new shares price : ℕ) → next ≡ renewed o new shares price → Intact next
started_whole o next new shares price e = rw e (record { executed = refl; cancelled = refl; closed = refl })

pub whole_fits : (o : Order) → Intact o → o.executed + o.cancelled + o.closed ≤ o.added
whole_fits o i = rw (i.executed, i.cancelled, i.closed) (omega arith)
