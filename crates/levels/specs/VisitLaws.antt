-- The laws of one pass: what a free slot, a live one and an unsound one do to what was seen, and that its sums stay small. Assumes
-- nothing.
use Rattle.std.specs.Prelude.{◌≡◌, ℕ, zero, suc, ◌+◌, ◌-◌, ◌*◌, ◌<◌, ◌≤◌, Bool, true, false, cond, List, ◌==◌, nat_lt, Option, Some, None}
use Rattle.std.proofs.Math.Path.{refl, sym}
use Rattle.std.proofs.Common.{ap, ◌∙◌, add-suc, add-zero, eq-eqb, ne_eqb}
use native.Mathlib.Omega.{arith}
use Rattle.book.specs.Book.{live, number_at}
use Rattle.orders.specs.declared.Order.{Order}
use Rattle.orders.specs.Order.{remaining}
use Rattle.orders.specs.OrderLaws.{held-sound}
use Rattle.slots.specs.Stored.{held_at}
use Rattle.levels.specs.declared.Wanted.{Wanted}
use Rattle.levels.specs.declared.Best.{Best}
use Rattle.levels.specs.Ticks.{ticks_to}
use Rattle.levels.specs.Visits.{is_wanted, considered, seen, begun, visited}

-- ---- slot by slot

module _ (w : Wanted) (b : List ℕ) (k : ℕ) where
  pub visit_free : (n : ℕ) → live b n ≡ 0 → visited w b k (suc n) ≡ visited w b k n
  unfolding visited
  visit_free n e = rw (ne_eqb (live b n) 1 (λ q. let z : ◌≡◌ {A = ℕ} 0 1 = sym e ∙ q in omega arith))

  pub live_slot : (n : ℕ) → live b n ≡ 1 → visited w b k (suc n) ≡ seen w (visited w b k n) (held_at b k n)
  unfolding visited
  live_slot n e = rw (eq-eqb (live b n) 1 e)

  -- free slots in a row change nothing
  pub free_slots : (n d : ℕ) → ((i : ℕ) → i < d → live b (n + i) ≡ 0) → visited w b k (n + d) ≡ visited w b k n
  free_slots n zero none = ap (visited w b k) (add-zero n)
  free_slots n (suc d) none =
      ap (visited w b k) (add-suc n d) ∙ visit_free (n + d) (none d (omega arith)) ∙ free_slots n d (λ i l. none i (omega arith))

  unsound_still : (n : ℕ) → visited w b k n ≡ None → visited w b k (suc n) ≡ None
  unfolding visited
  unsound_still n u = go (live b n == 1)
    where
      go : (t : Bool) → cond t (seen w (visited w b k n) (held_at b k n)) (visited w b k n) ≡ None
      go true = rw u
      go false = u

  -- once a slot was unsound, no slot mends it
  pub unsound_stays : (n d : ℕ) → visited w b k n ≡ None → visited w b k (n + d) ≡ None
  unsound_stays n zero e = ap (visited w b k) (add-zero n) ∙ e
  unsound_stays n (suc d) e = ap (visited w b k) (add-suc n d) ∙ unsound_still (n + d) (unsound_stays n d e)

  -- nor does any of the map numbers that are left
  pub unsound_ends : (j : ℕ) → j < k → visited w b k (64 * (j + 1)) ≡ None → None ≡ visited w b k (64 * k)
  unsound_ends j l e =
      let q : 64 * (j + 1) + (64 * k - 64 * (j + 1)) ≡ 64 * k = omega arith in
      sym (unsound_stays (64 * (j + 1)) (64 * k - 64 * (j + 1)) e) ∙ ap (visited w b k) q

  pub visit_none : visited w b k 0 ≡ begun w
  unfolding visited
  visit_none = refl

  -- all map numbers are passed
  pub visit_all : (j : ℕ) (best : Best) → j ≤ k → k ≤ j → visited w b k (64 * j) ≡ Some best → Some best ≡ visited w b k (64 * k)
  visit_all j best l h e = let q : 64 * j ≡ 64 * k = omega arith in sym e ∙ ap (visited w b k) q

-- ---- the sums stay small

pub record Small (n : ℕ) (x : Best) : Type 0 where
  pub shares : x.shares ≤ n * 4294967295
  pub orders : x.orders ≤ n

-- what a live slot holds: no more than 32 bits of shares
held_small : (b : List ℕ) (k s : ℕ) (o : Order) → held_at b k s ≡ Some o → remaining o ≤ 4294967295
unfolding held_at remaining
held_small b k s o e =
    let h = held-sound (number_at b k s 0) (number_at b k s 1) (number_at b k s 2) (number_at b k s 3) o e in
    omega (arith, h.added)

-- of whichever of three the tests pick, what holds of all
picked : (f : Best → ℕ) (n : ℕ) (x y z : Best) → f x ≤ n → f y ≤ n → f z ≤ n → (t u v : Bool) → f (cond t (cond u x (cond v y z)) z) ≤ n
picked f n x y z p q r true true v = p
picked f n x y z p q r true false true = q
picked f n x y z p q r true false false = r
picked f n x y z p q r false u v = r

module _ (w : Wanted) where
  more_shares : (best : Best) (o : Order) → (considered w best o).shares ≤ best.shares + remaining o
  unfolding considered
  more_shares best o =
      let ticks = ticks_to w.side o.price.0 in
      let fresh : Best = record { ticks = ticks; shares = remaining o; orders = 1 } in
      let more : Best = record { ticks = ticks; shares = best.shares + remaining o; orders = best.orders + 1 } in
      picked (λ x. x.shares) (best.shares + remaining o) fresh more best (omega arith) (omega arith) (omega arith)
      (is_wanted w o) (nat_lt ticks best.ticks) (ticks == best.ticks)

  more_orders : (best : Best) (o : Order) → (considered w best o).orders ≤ best.orders + 1
  unfolding considered
  more_orders best o =
      let ticks = ticks_to w.side o.price.0 in
      let fresh : Best = record { ticks = ticks; shares = remaining o; orders = 1 } in
      let more : Best = record { ticks = ticks; shares = best.shares + remaining o; orders = best.orders + 1 } in
      picked (λ x. x.orders) (best.orders + 1) fresh more best (omega arith) (omega arith) (omega arith)
      (is_wanted w o) (nat_lt ticks best.ticks) (ticks == best.ticks)

  small_more : (n : ℕ) (p : Option Best) (h : Option Order) (x : Best) → ((y : Best) → p ≡ Some y → Small n y)
      → ((o : Order) → h ≡ Some o → remaining o ≤ 4294967295) → seen w p h ≡ Some x → Small (suc n) x
  small_more n None h x ih held e = let z : ◌≡◌ {A = ℕ} 0 1 = cc in absurd (omega arith)
  small_more n (Some y) None x ih held e = let z : ◌≡◌ {A = ℕ} 0 1 = cc in absurd (omega arith)
  small_more n (Some y) (Some o) x ih held e =
      let q : considered w y o ≡ x = cc in
      let s = ih y refl in
      let r = held o refl in
      let ms = more_shares y o in
      let mo = more_orders y o in
      rw (← q) (record { shares = omega arith; orders = omega arith })

  pub small : (b : List ℕ) (k n : ℕ) (x : Best) → visited w b k n ≡ Some x → Small n x
  unfolding visited
  small b k zero x e = let q : x ≡ record { ticks = w.to; shares = 0; orders = 0 } = cc in rw q (omega arith)
  small b k (suc n) x e = go (live b n == 1) (λ y q. small b k n y q) e
    where
      go : (t : Bool) → ((y : Best) → visited w b k n ≡ Some y → Small n y)
          → cond t (seen w (visited w b k n) (held_at b k n)) (visited w b k n) ≡ Some x → Small (suc n) x
      go true ih e = small_more n (visited w b k n) (held_at b k n) x ih (held_small b k n) e
      go false ih e = let s = ih x e in record { shares = omega arith; orders = omega arith }
