-- The ways through E, C, X and D where the order is here, over plain values: each is its verdict, its answer and its book.
-- Assumes nothing.
use Rattle.refusals.specs.declared.Refusal.TheVariants.{Over}
use Rattle.std.specs.Prelude.{Result, Some, Ok, Err}
use Prim.Native.Nat.{ℕ, ◌+◌, ◌≤◌, ◌<◌}
use mathlib.Core.Path.{◌≡◌, refl, sym, ap, ◌∙◌}
use mathlib.Core.List.{List}
use native.Mathlib.Omega.{arith}
use borrow.Author.Tests.{eq-eqb, ne_eqb, le-leb, lt-leb}
use Rattle.book.specs.Book.{clear_slot}
use Rattle.orders.specs.declared.Order.{Order}
use Rattle.orders.specs.Order.{remaining, executed_by, cancelled_by, closed_of}
use Rattle.orders.specs.OrderLaws.{held-sound, closed_remaining}
use Rattle.decide.specs.declared.Figures.{Figures}
use Rattle.decide.specs.declared.Step.TheVariants.{One}
use Rattle.decide.specs.Figured.{figures_of}
use Rattle.decide.specs.Decide.{alter, leave, taking_from}
use Rattle.slots.specs.Stored.{held_at, put_order, kept}
use Rattle.slots.specs.Stepped.{Stepped, refuses, settles}
use Rattle.take.specs.declared.Taking.{Taking}
use Rattle.take.specs.declared.Taking.TheVariants.{Executed, Cancelled}
use Rattle.take.specs.Taken.{taken_by}
use Rattle.decide.specs.declared.Step.{Step}
use Rattle.refusals.specs.declared.Refusal.{Refusal}

-- no more is gone than was added after n of what remains is taken
pub more_fits : (b : List ℕ) (k s n : ℕ) (o : Order) → held_at b k s ≡ Some o → n ≤ remaining o
    → o.executed + o.cancelled + o.closed + n ≤ o.added
unfolding held_at remaining
more_fits b k s n o h l = let p = held-sound _ _ _ _ o h in omega arith

-- ---- the order's steps

pub by_executed : (how : Taking) (o x : Order) (n : ℕ) → how ≡ Executed → x ≡ executed_by o n → x ≡ taken_by how o n
by_executed how o x n e f = rw e f

pub by_cancelled : (how : Taking) (o x : Order) (n : ℕ) → how ≡ Cancelled → x ≡ cancelled_by o n → x ≡ taken_by how o n
by_cancelled how o x n e f = rw e f

taken_within : (how : Taking) (o : Order) (n : ℕ) → o.executed + o.cancelled + o.closed + n ≤ o.added
    → (taken_by how o n).executed + (taken_by how o n).cancelled + (taken_by how o n).closed ≤ (taken_by how o n).added
unfolding executed_by cancelled_by
taken_within Executed o n l = omega arith
taken_within Cancelled o n l = omega arith

pub taken_fits : (how : Taking) (o x : Order) (n : ℕ) → o.executed + o.cancelled + o.closed + n ≤ o.added → x ≡ taken_by how o n
    → x.executed + x.cancelled + x.closed ≤ x.added
taken_fits how o x n l e = rw e (taken_within how o n l)

-- ---- what comes of the order in slot s

module _ (b : List ℕ) (k s n : ℕ) (how : Taking) (o : Order) where
  pub over : {r : Result Step Refusal} → remaining o < n → r ≡ Err Over → Stepped b k s (taking_from (taken_by how) n o) r b
  over l e = refuses (rw (lt-leb n (remaining o) l)) e

  took : {b' : List ℕ} (left : Order) (rest : ℕ) (figures : Figures) → n ≤ remaining o → left ≡ taken_by how o n → rest ≡ remaining left
      → figures ≡ figures_of o n rest → b' ≡ kept b k s left → Stepped b k s (taking_from (taken_by how) n o) (Ok (One figures)) b'
  took left rest figures l q t f g =
      settles {w = alter o (taken_by how o n) n} (rw (le-leb n (remaining o) l)) (ap (λ x. Ok (One x)) (f ∙ ap (figures_of o n) (t ∙ ap remaining q))) (g ∙ ap (kept b k s) q)

  -- nothing remains: the slot is cleared
  pub took_all : {b' : List ℕ} (left : Order) (rest : ℕ) (figures : Figures) → n ≤ remaining o → left ≡ taken_by how o n → rest ≡ remaining left
      → figures ≡ figures_of o n rest → rest ≡ 0 → b' ≡ clear_slot b k s → Stepped b k s (taking_from (taken_by how) n o) (Ok (One figures)) b'
  unfolding kept
  took_all left rest figures l q t f z g = took left rest figures l q t f (rw (eq-eqb (remaining left) 0 (sym t ∙ z)) g)

  -- something remains: the order is put back
  pub took_some : {b' : List ℕ} (left : Order) (rest : ℕ) (figures : Figures) → n ≤ remaining o → left ≡ taken_by how o n → rest ≡ remaining left
      → figures ≡ figures_of o n rest → (rest ≡ 0 → ⊥) → b' ≡ put_order b k s left → Stepped b k s (taking_from (taken_by how) n o) (Ok (One figures)) b'
  unfolding kept
  took_some left rest figures l q t f z g = took left rest figures l q t f (rw (ne_eqb (remaining left) 0 (λ y. z (t ∙ y))) g)

pub closed_all : (b : List ℕ) (k s : ℕ) (o end : Order) (shares rest : ℕ) (figures : Figures) {b' : List ℕ} → shares ≡ remaining o
    → end ≡ closed_of o → rest ≡ remaining end → figures ≡ figures_of o shares rest → b' ≡ clear_slot b k s → Stepped b k s (leave o) (Ok (One figures)) b'
closed_all b k s o end shares rest figures p q t f g =
    settles refl (ap (λ x. Ok (One x)) (rw (f, t ∙ ap remaining q ∙ closed_remaining o, p))) g
