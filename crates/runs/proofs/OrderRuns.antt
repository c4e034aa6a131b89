-- CONSERVATION BY ORDER (`by_order`): the account of the present or last life under a reference is even with what remains of the live
-- orders under it, before and after each line. Assumes nothing.
use Rattle.std.specs.Prelude.{◌≡◌, Bool, true, false, eqb}
use Rattle.std.proofs.Math.Path.{refl, ap}
use Rattle.std.proofs.Common.{arith, eqb-true}
use Rattle.std.proofs.Math.Bool.{cond}
use mathlib.Core.List.{List, [], ◌∷◌, ◌++◌}
use Prim.Native.Nat.{ℕ, ◌+◌}
use Rattle.messages.specs.declared.Message.{Message}
use Rattle.orders.specs.declared.Order.{Order}
use Rattle.orders.specs.Order.{remaining}
use Rattle.decide.specs.declared.Figures.{Figures}
use Rattle.decide.specs.Figured.{figures_of}
use Rattle.decide.specs.Decide.{Verdict, refuse, enter, alter, leave, renew, enroll, pass, step_of}
use Rattle.steps.specs.Asked.{asked}
use Rattle.apply.specs.Apply.{concluded}
use Rattle.apply.specs.Runs.{reached, said}
use Rattle.levels.specs.Totals.{total}
use Rattle.moves.specs.Moves.{Moved}
use Rattle.moves.specs.Facts.{Facts}
use Rattle.moves.specs.Altered.{altered_reference, altered_remaining}
use Rattle.runs.specs.Ledger.{Event, added, executed, cancelled, closed, Line, line, lines_of, ledger, Life, no_life, booked, turned, life}
use Rattle.runs.specs.Statements.{Run, Start, start_of, ByOrder}
use Rattle.runs.specs.Healthy.{healthy_start, fitting_start, healthy_reached}
use Rattle.runs.specs.RunLaws.{by_verdict, over_run, fresh_total}
use Rattle.runs.specs.RunLaws.{Takes, take-line, taken_weight, starts_remaining, renewed-remaining}
use Rattle.runs.specs.OrderRuns.{only_of, weighs, same_unknown, order_shown}

-- a life's account, where t is what is left
abbrev Even : Life → ℕ → Type 0
Even a t = a.added ≡ a.executed + a.cancelled + a.closed + t

-- ---- lines

booked-away : (e : Event) (n : ℕ) (a : Life) (t t' : ℕ) → Takes e → Even a t → t ≡ t' + n → Even (booked e n a) t'
booked-away added n a t t' w h q = absurd w
booked-away executed n a t t' w h q = omega arith
booked-away cancelled n a t t' w h q = omega arith
booked-away closed n a t t' w h q = omega arith

module _ (r : ℕ) where
  -- a line that takes away: what is left falls by its shares, if it is of this order
  line-away : (x : Line) (a : Life) (t t' : ℕ) → Takes x.event → t ≡ t' + cond (eqb x.reference r) x.figures.shares 0
      → Even a t → Even (turned r x a) t'
  line-away x a t t' w q h = go (eqb x.reference r) q
    where
      go : (y : Bool) → t ≡ t' + cond y x.figures.shares 0 → Even (cond y (booked x.event x.figures.shares a) a) t'
      go true q = booked-away x.event x.figures.shares a t t' w h q
      go false q = omega arith

  -- a line that brings: nothing was left of this order before
  line_added : (s : ℕ) (f : Figures) (a : Life) (t t' : ℕ) → (s ≡ r → t ≡ 0) → t' ≡ t + cond (eqb s r) f.shares 0
      → Even a t → Even (turned r (line s added f) a) t'
  line_added s f a t t' z q h = go (eqb s r) refl q
    where
      go : (y : Bool) → eqb s r ≡ y → t' ≡ t + cond y f.shares 0 → Even (cond y (booked added f.shares a) a) t'
      go true e q = omega (arith, z (eqb-true s r e))
      go false e q = omega arith

  life-append : (xs ys : List Line) (a : Life) → life r (xs ++ ys) a ≡ life r ys (life r xs a)
  life-append [] ys a = refl
  life-append (x ∷ xs) ys a = life-append xs ys (turned r x a)

  -- ---- a verdict

  -- a life that is even with the one book is, after the lines, even with the other
  abbrev Evens : ℕ → List ℕ → List Line → List ℕ → Type 0
  Evens k b xs c = (a : Life) → Even a (total (only_of r) b k) → Even (life r xs a) (total (only_of r) c k)

  verdict_evens : (d b : List ℕ) (k : ℕ) (x : Message) (v : Verdict) (b' : List ℕ) → Facts d b k (asked x) v → Moved b b' k v
      → Evens k b (lines_of (concluded x (step_of v))) b'
  verdict_evens d b k x (refuse n) b' f m a h = omega (arith, m.took (only_of r), m.gave (only_of r))
  verdict_evens d b k x (enter o) b' f m a h =
      let s = f.starts in
      let w = weighs r o o.reference.0 o.added refl (starts_remaining o s.executed s.cancelled s.closed) in
      rw f.asks
      (line_added o.reference.0 (figures_of o o.added (remaining o)) a (total (only_of r) b k) (total (only_of r) b' k)
      (same_unknown r b k o.reference.0 f.unknown)
      (omega (arith, w, m.took (only_of r), m.gave (only_of r))) h)
  verdict_evens d b k x (alter o o' n) b' f m a h =
      let g = figures_of o n (remaining o') in
      let t = take-line x g f.how f.reference f.locate n f.asks in
      let w = weighs r o f.reference (remaining o) f.rests.reference refl in
      let w' = weighs r o' f.reference (remaining o') (altered_reference f) refl in
      let e = taken_weight (eqb f.reference r) (remaining o) (remaining o') n (altered_remaining f) f.within in
      let c = ap (λ (q : ℕ). cond (eqb (remaining o') 0) 0 q) w' in
      rw t.lines
      (line-away (line f.reference t.event g) a (total (only_of r) b k) (total (only_of r) b' k) t.takes
      (omega (arith, w, e, c, m.took (only_of r), m.gave (only_of r))) h)
  verdict_evens d b k x (leave o) b' f m a h =
      let w = weighs r o f.reference (remaining o) f.rests.reference refl in
      rw f.asks
      (line-away (line f.reference closed (figures_of o (remaining o) 0)) a (total (only_of r) b k) (total (only_of r) b' k) tt
      (omega (arith, w, m.took (only_of r), m.gave (only_of r))) h)
  verdict_evens d b k x (renew o o') b' f m a h =
      let w = weighs r o f.original (remaining o) f.rests.reference refl in
      let w' = weighs r o' f.new o'.added (ap (λ (q : Order). q.reference.0) f.after) (renewed-remaining f) in
      let out = line f.original closed (figures_of o (remaining o) 0) in
      rw f.asks
      (line_added f.new (figures_of o' o'.added (remaining o')) (turned r out a) (m.rest (only_of r)) (total (only_of r) b' k)
      (λ e. omega (arith, m.took (only_of r), same_unknown r b k f.new f.unknown e))
      (omega (arith, w', m.gave (only_of r)))
      (line-away out a (total (only_of r) b k) (m.rest (only_of r)) tt (omega (arith, w, m.took (only_of r))) h))
  verdict_evens d b k x (enroll at symbol) b' f m a h = omega (arith, m.took (only_of r), m.gave (only_of r))
  verdict_evens d b k x pass b' f m a h = omega (arith, m.took (only_of r), m.gave (only_of r))

  -- ---- a run

  run_evens : (n k : ℕ) (ss : List (List ℕ)) → Start n k → Run ss
      → Evens k (start_of n k).book (ledger (said (start_of n k) ss)) (reached (start_of n k) ss).book
  run_evens n k ss i y =
      over_run n k i (Evens k) (λ b a h. h)
      (λ t s h g z.
      by_verdict n k t s i h g z (λ u c. Evens k t.book (lines_of u) c) (λ u a h. h)
      (verdict_evens t.directory t.book k))
      (λ b c e xs ys q u a h. rw (life-append xs ys a) (u (life r xs a) (q a h)))
      ss y (start_of n k) (healthy_start n k i) (fitting_start n k i)

-- THEOREM: of the present or last life under a reference, the shares added are those executed, cancelled and closed, and what is shown
pub by_order : (n k : ℕ) (ss : List (List ℕ)) → Start n k → Run ss → (r : ℕ) → ByOrder n k ss r
by_order n k ss i y r =
    let h = healthy_reached n k ss i y in
    rw (order_shown r n k (reached (start_of n k) ss) i h) (run_evens r n k ss i y no_life (omega (arith, fresh_total (only_of r) n k)))
