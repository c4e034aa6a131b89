-- What a concern says of the verdict: a refusal is the verdict's own, whatever would have come next; and where the order is here, the
-- verdict is what comes next of it. Assumes nothing.
use Rattle.refusals.specs.declared.Refusal.TheVariants.{Conflict}
use Rattle.std.specs.Prelude.{ℕ, ◌*◌, ◌<◌, Bool, List, Option, Result, Some, None, Ok, Err}
use Rattle.std.proofs.Math.Path.{◌≡◌, refl}
use Rattle.std.proofs.Math.Bool.{true, false, cond}
use Rattle.std.proofs.Common.{arith, ap, sym}
use Rattle.std.proofs.Math.Dec.{eqb}
use Rattle.refusals.specs.declared.Refusal.{Refusal}
use Rattle.kinds.specs.declared.Slot.{Slot}
use Rattle.book.specs.Finds.{Within}
use Rattle.book.specs.Shape.{Sized}
use Rattle.orders.specs.declared.Order.{Order}
use Rattle.decide.specs.Decide.{Verdict, gate, something, concerning}
use Rattle.slots.specs.Stored.{held_at, seen_in, slot_of}
use Rattle.slots.specs.Stepped.{Stepped}
use Rattle.slots.specs.Concerned.{concern_in, concern_of}
use Rattle.decide.specs.declared.Step.{Step}

module _ (b : List ℕ) (k locate : ℕ) where
  -- ---- refused

  pub turned-away : (f : Option Slot) (r : Refusal) (next : Order → Verdict) → Err r ≡ concern_of b k f locate
      → Stepped b k (slot_of f) (concerning locate next (seen_in b k f)) (Err r) b
  unfolding concern_of
  turned-away None r next e = record { answered = cc; after = refl }
  turned-away (Some s) r next e = holding (held_at b k s.0) e
    where
      elsewhere : (o : Order) (t : Bool) → ◌≡◌ {A = Result (Slot × Order) Refusal} (Err r) (cond t (Ok (s, o)) (Err Conflict))
          → Stepped b k s.0 (gate t Conflict (next o)) (Err r) b
      elsewhere o true e = let z : ◌≡◌ {A = ℕ} 0 1 = cc in absurd (omega arith)
      elsewhere o false e = record { answered = cc; after = refl }

      holding : (h : Option Order) → Err r ≡ concern_in s locate h → Stepped b k s.0 (concerning locate next (something h)) (Err r) b
      holding None e = record { answered = cc; after = refl }
      holding (Some o) e = elsewhere o (eqb o.locate.0 locate) e

  -- ---- here

  -- slot s was found, and holds the order o, of whose stock the message is
  pub record IsHere (f : Option Slot) (s : Slot) (o : Order) : Type 0 where
    pub found : f ≡ Some s
    pub holding : held_at b k s.0 ≡ Some o
    pub next : (n : Order → Verdict) → concerning locate n (seen_in b k f) ≡ n o

  pub here : (f : Option Slot) (s : Slot) (o : Order) → Ok (s, o) ≡ concern_of b k f locate → IsHere f s o
  unfolding concern_of
  here None s o e = let z : ◌≡◌ {A = ℕ} 0 1 = cc in absurd (omega arith)
  here (Some u) s o e = by (held_at b k u.0) refl e
    where
      by : (h : Option Order) → held_at b k u.0 ≡ h → Ok (s, o) ≡ concern_in u locate h → IsHere (Some u) s o
      by None q e = let z : ◌≡◌ {A = ℕ} 0 1 = cc in absurd (omega arith)
      by (Some x) q e = own (eqb x.locate.0 locate) refl e
        where
          own : (t : Bool) → eqb x.locate.0 locate ≡ t → ◌≡◌ {A = Result (Slot × Order) Refusal} (Ok (s, o)) (cond t (Ok (u, x)) (Err Conflict)) → IsHere (Some u) s o
          own true p e =
              let both : ◌≡◌ {A = Slot × Order} (s, o) (u, x) = cc in
              let same : x ≡ o = ap (λ p. p.1) (sym both) in
              let there : u ≡ s = ap (λ p. p.0) (sym both) in
              record { found = rw there; holding = cc; next = λ n. rw (q, p, same) }
          own false p e = let z : ◌≡◌ {A = ℕ} 0 1 = cc in absurd (omega arith)

  -- what came of the order in its slot is what came of the message
  pub let_through : (f : Option Slot) (s : Slot) (o : Order) (next : Order → Verdict) (r : Result Step Refusal) (b' : List ℕ) → IsHere f s o
      → Stepped b k s.0 (next o) r b' → Stepped b k (slot_of f) (concerning locate next (seen_in b k f)) r b'
  let_through f s o next r b' h x = rw (h.next next) (rw h.found x)

  -- what a step in that slot asks
  pub in_slot : (f : Option Slot) (s : Slot) (o : Order) → IsHere f s o → Sized b k × Within k f
      → Sized b k × (s.0 < 64 * k) × (held_at b k s.0 ≡ Some o)
  in_slot f s o h z = (z.0, rw h.found at z.1, h.holding)
