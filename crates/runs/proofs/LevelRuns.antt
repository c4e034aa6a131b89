-- CONSERVATION BY LEVEL (`by_level`): each verdict brings to a level and takes from it what its lines say, so over a run from fresh
-- tables what was put there is what was taken away and what the level question shows. Assumes nothing.
use Rattle.std.specs.Prelude.{◌≡◌, Bool, true, false, cond, List, [], ◌∷◌, ◌++◌, ℕ, ◌+◌, eqb}
use Rattle.std.proofs.Math.Path.{refl}
use Rattle.std.proofs.Common.{ap, ◌∙◌, arith}
use Rattle.kinds.specs.declared.Side.{Side}
use Rattle.messages.specs.declared.Message.{Message}
use Rattle.orders.specs.declared.Order.{Order}
use Rattle.orders.specs.Order.{remaining, executed_by, cancelled_by}
use Rattle.decide.specs.Figured.{figures_of}
use Rattle.decide.specs.Decide.{Verdict, refuse, enter, alter, leave, renew, enroll, pass, step_of}
use Rattle.take.specs.declared.Taking.{Taking}
use Rattle.take.specs.declared.Taking.TheVariants.{Executed, Cancelled}
use Rattle.take.specs.Taken.{taken_by}
use Rattle.steps.specs.Asked.{asked}
use Rattle.apply.specs.Apply.{concluded}
use Rattle.apply.specs.Runs.{reached, said}
use Rattle.levels.specs.Totals.{total}
use Rattle.levels.specs.Levels.{stands_at, shares_at}
use Rattle.moves.specs.Moves.{Moved}
use Rattle.moves.specs.Facts.{Facts}
use Rattle.moves.specs.Altered.{altered_remaining}
use Rattle.runs.specs.Ledger.{Event, added, executed, cancelled, closed, Line, lines_of, ledger, brought_by, put, taken}
use Rattle.runs.specs.Ledger.{taken_away as away_by}
use Rattle.runs.specs.Statements.{Run, Start, start_of, ByLevel}
use Rattle.runs.specs.Healthy.{healthy_start, fitting_start, healthy_reached}
use Rattle.runs.specs.RunLaws.{by_verdict, over_run, fresh_total}
use Rattle.runs.specs.RunLaws.{Takes, take-line, taken_weight, starts_remaining, renewed-remaining}
use Rattle.runs.specs.LevelRuns.{level_shown}

-- ---- lines

-- a line that takes shares away brings none
takes_none : (e : Event) (n : ℕ) → Takes e → brought_by e n ≡ 0
takes_none added n t = absurd t
takes_none executed n t = refl
takes_none cancelled n t = refl
takes_none closed n t = refl

takes_all : (e : Event) (n : ℕ) → Takes e → away_by e n ≡ n
takes_all added n t = absurd t
takes_all executed n t = refl
takes_all cancelled n t = refl
takes_all closed n t = refl

cond_none : (t : Bool) → cond {A = ℕ} t 0 0 ≡ 0
cond_none true = refl
cond_none false = refl

module _ (l : ℕ) (side : Side) (p : ℕ) where
  put-append : (xs ys : List Line) → put l side p (xs ++ ys) ≡ put l side p xs + put l side p ys
  put-append [] ys = omega arith
  put-append (x ∷ xs) ys = omega (arith, put-append xs ys)

  taken-append : (xs ys : List Line) → taken l side p (xs ++ ys) ≡ taken l side p xs + taken l side p ys
  taken-append [] ys = omega arith
  taken-append (x ∷ xs) ys = omega (arith, taken-append xs ys)

  -- ---- a verdict

  -- the level shows what it showed, with what the lines bring and without what they take
  abbrev Links : ℕ → List ℕ → List Line → List ℕ → Type 0
  Links k b xs c = put l side p xs + total (shares_at l side p) b k ≡ taken l side p xs + total (shares_at l side p) c k

  -- an order of which shares are taken stands where it stood
  altered_stands : (how : Taking) (o : Order) (n : ℕ) → stands_at l side p (taken_by how o n) ≡ stands_at l side p o
  unfolding executed_by cancelled_by
  altered_stands Executed o n = refl
  altered_stands Cancelled o n = refl

  verdict_links : (d b : List ℕ) (k : ℕ) (x : Message) (v : Verdict) (b' : List ℕ) → Facts d b k (asked x) v → Moved b b' k v
      → Links k b (lines_of (concluded x (step_of v))) b'
  verdict_links d b k x (refuse n) b' f m = omega (arith, m.took (shares_at l side p), m.gave (shares_at l side p))
  verdict_links d b k x (enter o) b' f m =
      let s = f.starts in
      let a = ap (λ (q : ℕ). cond (stands_at l side p o) q 0) (starts_remaining o s.executed s.cancelled s.closed) in
      let z = cond_none (stands_at l side p o) in
      rw f.asks (omega (arith, a, z, m.took (shares_at l side p), m.gave (shares_at l side p)))
  verdict_links d b k x (alter o o' n) b' f m =
      let t = take-line x (figures_of o n (remaining o')) f.how f.reference f.locate n f.asks in
      let y = stands_at l side p o in
      let e : stands_at l side p o' ≡ y = ap (stands_at l side p) f.after ∙ altered_stands f.how o n in
      let a = taken_weight y (remaining o) (remaining o') n (altered_remaining f) f.within in
      let c = ap (λ (q : Bool). cond (eqb (remaining o') 0) 0 (cond q (remaining o') 0)) e in
      let z = cond_none y in
      rw t.lines
      (rw (takes_none t.event n t.takes, takes_all t.event n t.takes)
      (omega (arith, a, c, z, m.took (shares_at l side p), m.gave (shares_at l side p))))
  verdict_links d b k x (leave o) b' f m =
      let z = cond_none (stands_at l side p o) in
      rw f.asks (omega (arith, z, m.took (shares_at l side p), m.gave (shares_at l side p)))
  verdict_links d b k x (renew o o') b' f m =
      let a = ap (λ (q : ℕ). cond (stands_at l side p o') q 0) (renewed-remaining f) in
      let z = cond_none (stands_at l side p o) in
      let z' = cond_none (stands_at l side p o') in
      rw f.asks (omega (arith, a, z, z', m.took (shares_at l side p), m.gave (shares_at l side p)))
  verdict_links d b k x (enroll at symbol) b' f m = omega (arith, m.took (shares_at l side p), m.gave (shares_at l side p))
  verdict_links d b k x pass b' f m = omega (arith, m.took (shares_at l side p), m.gave (shares_at l side p))

  -- ---- a run

  run_links : (n k : ℕ) (ss : List (List ℕ)) → Start n k → Run ss
      → Links k (start_of n k).book (ledger (said (start_of n k) ss)) (reached (start_of n k) ss).book
  run_links n k ss i y =
      over_run n k i (Links k) (λ b. omega arith)
      (λ t s h g z.
      by_verdict n k t s i h g z (λ a c. Links k t.book (lines_of a) c) (λ r. omega arith)
      (verdict_links t.directory t.book k))
      (λ b c e xs ys q r. omega (arith, q, r, put-append xs ys, taken-append xs ys))
      ss y (start_of n k) (healthy_start n k i) (fitting_start n k i)

-- THEOREM: what was put at a level is what was taken away there and what it shows
pub by_level : (n k : ℕ) (ss : List (List ℕ)) → Start n k → Run ss → (l : ℕ) (side : Side) (p : ℕ) → ByLevel n k ss l side p
by_level n k ss i y l side p =
    let h = healthy_reached n k ss i y in
    omega
    (arith, run_links l side p n k ss i y, fresh_total (shares_at l side p) n k, level_shown n k (reached (start_of n k) ss) i h l side p)
