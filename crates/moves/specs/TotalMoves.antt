-- One changed slot moves a total by what it weighed before and weighs after: an order that is put is held, and adds its weight; a
-- cleared slot weighs nothing. Assumes nothing.
use Rattle.std.specs.Prelude.{◌≡◌, refl, ◌≢◌, List, ℕ, ◌+◌, ◌*◌, ◌<◌, Option, Some}
use Rattle.std.proofs.Common.{◌∙◌, arith}
use Rattle.laws.specs.Sum.{sum_change}
use Rattle.book.specs.Book.{live, clear_slot}
use Rattle.book.specs.Shape.{Sized}
use Rattle.book.specs.Slots.{Changed, put_changed, clear_changed}
use Rattle.orders.specs.declared.Order.{Order}
use Rattle.orders.specs.Order.{held, second, third, fourth}
use Rattle.orders.specs.OrderLaws.{Fit, held_again}
use Rattle.slots.specs.Stored.{held_at, put_order}
use Rattle.levels.specs.Totals.{weighed, total}

-- a slot with bit v that holds h weighs v times h's weight
pub weighed_is : (w : Option Order → ℕ) (b : List ℕ) (k s v : ℕ) (h : Option Order) → live b s ≡ v → held_at b k s ≡ h → weighed w b k s ≡ v * w h
unfolding weighed
weighed_is w b k s v h p q = rw (p, q)

-- ---- one slot changed

module _ {k s v n0 n1 n2 n3 : ℕ} {b c : List ℕ} (g : Changed k s v n0 n1 n2 n3 b c) where
  -- what a changed slot then holds, and what every other does
  pub held_changed : held_at c k s ≡ held n0 n1 n2 n3
  unfolding held_at
  held_changed = rw (g.num_0, g.num_1, g.num_2, g.num_3)

  pub held_off : (t : ℕ) → t ≢ s → held_at c k t ≡ held_at b k t
  unfolding held_at
  held_off t d =
      rw
      (g.num_off t 0 d (omega arith), g.num_off t 1 d (omega arith), g.num_off t 2 d (omega arith), g.num_off t 3 d (omega arith))

  -- what the slot weighed before and weighs after is all that a total differs by
  pub change_total : (w : Option Order → ℕ) → s < 64 * k → total w c k + weighed w b k s ≡ total w b k + weighed w c k s
  unfolding total weighed
  change_total w l =
      sum_change (weighed w c k) (weighed w b k) (64 * k) s l λ t h d. rw (g.bit_off t h d, held_off t d)

-- ---- a slot put, a slot cleared

module _ (b : List ℕ) (k s : ℕ) (z : Sized b k) (l : s < 64 * k) where
  module _ (o : Order) where
    pub put_slot_lem : Changed k s 1 o.reference.0 (second o) (third o) (fourth o) b (put_order b k s o)
    unfolding put_order
    put_slot_lem = put_changed b k s o.reference.0 (second o) (third o) (fourth o) z.size l

    -- what is put is held
    pub put-held : Fit o → held_at (put_order b k s o) k s ≡ Some o
    put-held f = held_changed put_slot_lem ∙ held_again o f

    pub put-total : (w : Option Order → ℕ) → Fit o → total w (put_order b k s o) k + weighed w b k s ≡ total w b k + w (Some o)
    put-total w f =
        omega
        (arith, change_total put_slot_lem w l, weighed_is w (put_order b k s o) k s 1 (Some o) put_slot_lem.bit_at (put-held f))

    -- in a free slot
    pub put_free_total : (w : Option Order → ℕ) → Fit o → live b s ≡ 0 → total w (put_order b k s o) k ≡ total w b k + w (Some o)
    put_free_total w f e = omega (arith, put-total w f, weighed_is w b k s 0 (held_at b k s) e refl)

  pub clear_total : (w : Option Order → ℕ) → total w (clear_slot b k s) k + weighed w b k s ≡ total w b k
  clear_total w =
      let g = clear_changed b k s z.size l in
      omega
      (arith, change_total g w l, weighed_is w (clear_slot b k s) k s 0 (held_at (clear_slot b k s) k s) g.bit_at refl)

  -- the order that the slot held is taken out
  pub clear_held_total : (w : Option Order → ℕ) (o : Order) → live b s ≡ 1 → held_at b k s ≡ Some o
      → total w (clear_slot b k s) k + w (Some o) ≡ total w b k
  clear_held_total w o e h = omega (arith, clear_total w, weighed_is w b k s 1 (Some o) e h)
