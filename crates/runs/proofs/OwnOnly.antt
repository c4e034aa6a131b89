-- ONLY ITS OWN (`only_its_own`): every order that a verdict takes out or puts in is mentioned by a line of the answer, under its reference
-- and at its level (`quiet`), so totals over other orders and other levels stay. Assumes nothing.
use Rattle.refusals.specs.declared.Refusal.TheVariants.{Field}
use Rattle.std.specs.Prelude.{◌≡◌, refl, Bool, true, false, cond, ℕ, eqb, Option, Result, Some, Ok, Err}
use Rattle.std.proofs.Common.{sym, ap, subst, ◌∙◌, arith}
use mathlib.Core.List.Memᴰ.{head as here}
use mathlib.Core.List.Memᴰ.{tail as there}
use mathlib.Core.List.{List, Memᴰ as Among}
use Rattle.kinds.specs.declared.Side.{Side}
use Rattle.kinds.specs.declared.Side.TheVariants.{Buy, Sell}
use Rattle.kinds.specs.Sides.{side_byte, side_of, good_side}
use Rattle.messages.specs.declared.Message.{Message}
use Rattle.orders.specs.declared.Order.{Order}
use Rattle.orders.specs.Order.{remaining, executed_by, cancelled_by}
use Rattle.decide.specs.Decide.{Verdict, refuse, enter, alter, leave, renew, enroll, pass, step_of}
use Rattle.decide.specs.Figured.{figures_of}
use Rattle.take.specs.declared.Taking.{Taking}
use Rattle.take.specs.declared.Taking.TheVariants.{Executed, Cancelled}
use Rattle.take.specs.Taken.{taken_by}
use Rattle.reader.specs.Read.{answer}
use Rattle.steps.specs.Asked.{asked}
use Rattle.steps.specs.Steps.{verdict_on}
use Rattle.apply.specs.declared.Outcome.TheVariants.{Moved}
use Rattle.apply.specs.Apply.{After, concluded}
use Rattle.apply.specs.Runs.{Tables, tables_after, answer_to}
use Rattle.accounts.specs.Accounts.{accounted, order_asked}
use Rattle.levels.specs.declared.Level.{Level}
use Rattle.levels.specs.Levels.{stands_at, shares_at, orders_at, no_quote, level_at, level_of}
use Rattle.levels.specs.Totals.{total}
use Rattle.moves.specs.Lawful.{Bytes}
use Rattle.moves.specs.Moves.{taken_out, put_in}
use Rattle.moves.specs.Facts.{Facts}
use Rattle.moves.specs.Altered.{altered_reference}
use Rattle.runs.specs.Ledger.{line, taken_as, Line, lines_of, of_level}
use Rattle.runs.specs.Ledger.Event.{added, closed}
use Rattle.runs.specs.Statements.{Start, Healthy, Touches, Concerns, OnlyItsOwn}
use Rattle.runs.specs.Healthy.{Fitting, healthy_after}
use Rattle.runs.specs.OneMessage.{step_unread, step_read, step_facts, step_moved}
use Rattle.runs.specs.SameSeen.{is_order, is_other, seen_same}
use Rattle.runs.specs.AlikeAsks.{order_seen, level_stands, level_same}
use Rattle.runs.specs.OwnOnly.{lines_start, lines_take, lines_close, lines_replace}
use Rattle.apply.specs.declared.Outcome.{Outcome}
use Rattle.refusals.specs.declared.Refusal.{Refusal}

-- ---- what a line mentions

-- a line is about the order o: under its reference, at its level
record Mentions (xs : List Line) (o : Order) : Type 0 where
  by : Line
  among : Among by xs
  reference : by.reference ≡ o.reference.0
  level : (l : ℕ) (side : Side) (p : ℕ) → of_level l side p by.figures ≡ stands_at l side p o

-- an order of which shares are taken stays at its level
same_level : (how : Taking) (o : Order) (c l : ℕ) (side : Side) (p : ℕ) → stands_at l side p o ≡ stands_at l side p (taken_by how o c)
unfolding executed_by cancelled_by
same_level Executed o c l side p = refl
same_level Cancelled o c l side p = refl

-- what a weight of 0 on all orders that are mentioned says of a verdict with its facts
quiet : (w : Option Order → ℕ) (d b : List ℕ) (k : ℕ) (x : Message) (v : Verdict) → Facts d b k (asked x) v
    → ((o : Order) → Mentions (lines_of (concluded x (step_of v))) o → w (Some o) ≡ 0) → (taken_out w v ≡ 0) × (put_in w v ≡ 0)
quiet w d b k x (refuse n) f h = (refl, refl)
quiet w d b k x (enter o) f h =
    let y = figures_of o o.added (remaining o) in
    let e = lines_start x o f.symbol y f.asks in (
      refl,
      h o (record {
        by = line o.reference.0 added y;
        among = subst (λ (xs : List Line). Among (line o.reference.0 added y) xs) (sym e) (here refl);
        reference = refl;
        level = λ l side p. refl;
      }),
    )
quiet w d b k x (alter o o' n) f h =
    let y = figures_of o n (remaining o') in
    let at = line f.reference (taken_as f.how) y in
    let e = lines_take x f.how f.reference f.locate n y f.asks in
    let in_lines : Among at (lines_of (Ok (Moved x y))) = subst (λ (xs : List Line). Among at xs) (sym e) (here refl) in
    let before = h o (record { by = at; among = in_lines; reference = sym f.rests.reference; level = λ l side p. refl }) in
    let after = h o' (record {
      by = at;
      among = in_lines;
      reference = sym (altered_reference f);
      level = λ l side p. same_level f.how o n l side p ∙ ap (stands_at l side p) (sym f.after);
    }) in
    (before, nothing_put (eqb (remaining o') 0) after)
  where
    nothing_put : (t : Bool) → w (Some o') ≡ 0 → cond t 0 (w (Some o')) ≡ 0
    nothing_put true e = refl
    nothing_put false e = e
quiet w d b k x (leave o) f h =
    let y = figures_of o (remaining o) 0 in
    let at = line f.reference closed y in
    let e = lines_close x f.reference f.locate y f.asks in (
      h o (record {
        by = at;
        among = subst (λ (xs : List Line). Among at xs) (sym e) (here refl);
        reference = sym f.rests.reference;
        level = λ l side p. refl;
      }),
      refl,
    )
quiet w d b k x (renew o o') f h =
    let y = figures_of o (remaining o) 0 in
    let y' = figures_of o' o'.added (remaining o') in
    let out = line f.original closed y in
    let new = line f.new added y' in
    let e = lines_replace x f.original f.new f.locate f.shares f.price y y' f.asks in (
      h o (record {
        by = out;
        among = subst (λ (xs : List Line). Among out xs) (sym e) (here refl);
        reference = sym f.rests.reference;
        level = λ l side p. refl;
      }),
      h o' (record {
        by = new;
        among = subst (λ (xs : List Line). Among new xs) (sym e) (there (here refl));
        reference = sym (ap (λ (q : Order). q.reference.0) f.after);
        level = λ l side p. refl;
      }),
    )
quiet w d b k x (enroll l symbol) f h = (refl, refl)
quiet w d b k x pass f h = (refl, refl)

-- ---- the theorem

off : (t : Bool) → (t ≡ true → ⊥) → t ≡ false
off true n = absurd (n refl)
off false n = refl

module _ (n k : ℕ) (t : Tables) (s : List ℕ) (z : Start n k) (h : Healthy n k t) (f : Fitting t) (bytes : Bytes s) where
  -- a weight of 0 on all orders that are mentioned has the same total after
  total_stays : (w : Option Order → ℕ) → ((o : Order) → Mentions (lines_of (answer_to t s)) o → w (Some o) ≡ 0)
      → total w (tables_after t s).book k ≡ total w t.book k
  total_stays w q = go (answer s) refl
    where
      go : (a : Result Message Refusal) → answer s ≡ a → total w (tables_after t s).book k ≡ total w t.book k
      go (Err r) e = ap (λ (a : After). total w a.book k) (step_unread z h s r e)
      go (Ok x) e =
          let v = verdict_on t.directory t.book k (asked x) in
          let p = ap (λ (a : After). a.outcome) (step_read z h s x e) in
          let m = step_moved z h f s x bytes e in
          let still = quiet w t.directory t.book k x v (step_facts z h f s x bytes e)
          (λ o y. q o (subst (λ (c : Result Outcome Refusal). Mentions (lines_of c) o) (sym p) y)) in
          omega (arith, m.took w, m.gave w, still.0, still.1)

  after_healthy : Healthy n k (tables_after t s)
  after_healthy = healthy_after n k t s z h f bytes

  accounts_stay : (r : ℕ) → (Concerns r (lines_of (answer_to t s)) → ⊥) → order_asked (tables_after t s).book r ≡ order_asked t.book r
  accounts_stay r none =
      order_seen z after_healthy r
      ∙ ap accounted (seen_same n k n k (tables_after t s) t r after_healthy h λ o e.
      total_stays (is_order o) λ o' y. is_other o o' λ q. none (y.by, y.among, y.reference ∙ q ∙ e))
      ∙ sym (order_seen z h r)

  -- no order that is mentioned stands at a level that no line is about
  not_there : (l : ℕ) (side : Side) (p : ℕ) → (Touches l side p (lines_of (answer_to t s)) → ⊥)
      → (o : Order) → Mentions (lines_of (answer_to t s)) o → stands_at l side p o ≡ false
  not_there l side p none o y = off (stands_at l side p o) λ q. none (y.by, y.among, y.level l side p ∙ q)

  level_stays : (l : ℕ) (side : Side) (p : ℕ) → (Touches l side p (lines_of (answer_to t s)) → ⊥)
      → level_of (tables_after t s).book l (side_byte side) p ≡ level_of t.book l (side_byte side) p
  level_stays l side p none =
      level_stands z after_healthy l (side_byte side) p
      ∙ ap (λ (x : Level). cond (good_side (side_byte side)) (Ok (Some x)) (no_quote Field))
      (read_back side stays)
      ∙ sym (level_stands z h l (side_byte side) p)
    where
      same : Side → Type 0
      same i = level_at (tables_after t s).book k l i p ≡ level_at t.book k l i p

      stays : same side
      stays =
          level_same (tables_after t s).book k t.book k l side p
          (total_stays (shares_at l side p) λ o y. ap (λ (c : Bool). cond c (remaining o) 0) (not_there l side p none o y))
          (total_stays (orders_at l side p) λ o y. ap (λ (c : Bool). cond c 1 0) (not_there l side p none o y))

      read_back : (i : Side) → same i → same (side_of (side_byte i))
      read_back Buy e = e
      read_back Sell e = e

pub only_its_own : (n k : ℕ) (t : Tables) (s : List ℕ) → Start n k → Healthy n k t → Fitting t → Bytes s → OnlyItsOwn t s
only_its_own n k t s z h f bytes =
    record { accounts = accounts_stay n k t s z h f bytes; levels = level_stays n k t s z h f bytes }
