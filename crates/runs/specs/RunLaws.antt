-- What is shown of each verdict with its facts holds of each message (`by_verdict`), and what links the book before a message to the
-- book after it, and chains, links both ends of a run (`over_run`). The lines of the ledger are read off what was asked, and shares
-- taken of an order are what its weight falls by. Assumes nothing.
use Rattle.std.specs.Prelude.{◌≡◌, refl, Bool, true, false, cond, List, [], ◌∷◌, ◌++◌, ℕ, ◌+◌, ◌-◌, ◌*◌, ◌≤◌, eqb, replicate, Option, Result, Ok, Err}
use Rattle.std.proofs.Common.{sym, subst, arith, eqb-true}
use mathlib.Core.List.Memᴰ.{head as here}
use mathlib.Core.List.Memᴰ.{tail as there}
use Rattle.messages.specs.declared.Message.{Message}
use Rattle.refusals.specs.declared.Refusal.{Refusal}
use Rattle.reader.specs.Read.{answer}
use Rattle.orders.specs.declared.Order.{Order}
use Rattle.orders.specs.Order.{remaining}
use Rattle.decide.specs.declared.Figures.{Figures}
use Rattle.decide.specs.Decide.{Verdict, step_of, renewed}
use Rattle.take.specs.declared.Taking.{Taking}
use Rattle.take.specs.declared.Taking.TheVariants.{Executed, Cancelled}
use Rattle.steps.specs.Asked.{Asked, take, asked}
use Rattle.steps.specs.Steps.{verdict_on, slot_sought}
use Rattle.apply.specs.declared.Outcome.TheVariants.{Moved}
use Rattle.apply.specs.Apply.{After, concluded, settled, applied}
use Rattle.apply.specs.ApplyLaws.{unread, judgement}
use Rattle.apply.specs.Runs.{Tables, tables_after, answer_to, reached, said}
use Rattle.levels.specs.Totals.{total}
use Rattle.levels.specs.TotalLaws.{none_total}
use Rattle.apply_theorems.specs.Statements.{Shaped}
use Rattle.apply_theorems.specs.Means.{shaped_words, shaped_good}
use Rattle.moves.specs.Lawful.{Bytes}
use Rattle.moves.specs.Moves.{Moved as Moves}
use Rattle.moves.specs.Facts.{Renewing, Facts}
use Rattle.moves.specs.Judged.{facts}
use Rattle.moves.specs.Moved.{moves}
use Rattle.moves.specs.Reads.{lawful}
use Rattle.runs.specs.Ledger.{Event, added, executed, cancelled, closed, Line, line, lines_of, ledger}
use Rattle.runs.specs.Statements.{Run, Start, start_of, Healthy}
use Rattle.runs.specs.Healthy.{Fitting, none_live, healthy_after, fitting_after, healthy_shaped, healthy_sized}
use Rattle.apply.specs.declared.Outcome.{Outcome}

-- ---- one message

-- bytes that are refused leave the book; any other message comes to a verdict, which has its facts and moves the book
pub by_verdict : (n k : ℕ) (t : Tables) (s : List ℕ) → Start n k → Healthy n k t → Fitting t → Bytes s
    → (P : Result Outcome Refusal → List ℕ → Type 0)
    → ((r : Refusal) → P (Err r) t.book)
    → ((x : Message) (v : Verdict) (b' : List ℕ) → Facts t.directory t.book k (asked x) v → Moves t.book b' k v
    → P (concluded x (step_of v)) b')
    → P (answer_to t s) (tables_after t s).book
by_verdict n k t s i h g y P refused came = go (answer s) refl
  where
    d : List ℕ
    d = t.directory

    b : List ℕ
    b = t.book

    shaped : Shaped d b k
    shaped = healthy_shaped i h

    Q : After → Type 0
    Q a = P a.outcome a.book

    go : (a : Result Message Refusal) → answer s ≡ a → Q (applied d b s)
    go (Err r) e = subst Q (sym (unread d b s (shaped_good shaped) e)) (refused r)
    go (Ok x) e =
        let z = healthy_sized i h in
        let v = verdict_on d b k (asked x) in
        let f = facts d b k (asked x) z g.book (lawful s x y e) in
        let here : Q (settled d b k x (slot_sought b k (asked x)) v) = came x v _ f (moves d b k (asked x) z v f) in
        subst Q (sym (judgement d b s (shaped_good shaped) e))
        (subst (λ (m : ℕ). Q (settled d b m x (slot_sought b m (asked x)) (verdict_on d b m (asked x)))) (sym (shaped_words shaped)) here)

-- ---- a run

-- R links a book to itself without lines, to the book after a message by its lines, and chains: it links both ends of a run
pub over_run : (n k : ℕ) → Start n k → (R : List ℕ → List Line → List ℕ → Type 0)
    → ((b : List ℕ) → R b [] b)
    → ((t : Tables) (s : List ℕ) → Healthy n k t → Fitting t → Bytes s → R t.book (lines_of (answer_to t s)) (tables_after t s).book)
    → ((b c e : List ℕ) (xs ys : List Line) → R b xs c → R c ys e → R b (xs ++ ys) e)
    → (ss : List (List ℕ)) → Run ss → (t : Tables) → Healthy n k t → Fitting t → R t.book (ledger (said t ss)) (reached t ss).book
over_run n k i R none one both [] y t h g = none t.book
over_run n k i R none one both (s ∷ ss) y t h g =
    let b = y s (here refl) in
    let u = tables_after t s in
    both t.book u.book (reached u ss).book (lines_of (answer_to t s)) (ledger (said u ss)) (one t s h g b)
    (over_run n k i R none one both ss (λ u m. y u (there m)) u (healthy_after n k t s i h g b) (fitting_after n k t s i h g b))

-- nothing has weight in a book made fresh
pub fresh_total : (w : Option Order → ℕ) (n k : ℕ) → total w (start_of n k).book k ≡ 0
fresh_total w n k = none_total w (replicate (257 * k) 0) k λ s l e. absurd (omega (arith, none_live (257 * k) s, e))

-- ---- the lines of the ledger

-- events that take shares away
abbrev pub Takes : Event → Type 0
Takes added = ⊥
Takes executed = Unit {0}
Takes cancelled = Unit {0}
Takes closed = Unit {0}

-- E, C and X have one line, which takes shares away
pub record TakeLine (x : Message) (f : Figures) (r : ℕ) : Type 0 where
  pub event : Event
  pub takes : Takes event
  pub lines : lines_of (Ok (Moved x f)) ≡ line r event f ∷ []

pub take-line : (x : Message) (f : Figures) (how : Taking) (r l n : ℕ) → asked x ≡ take how r l n → TakeLine x f r
take-line x f Executed r l n e = record { event = executed; takes = tt; lines = rw e }
take-line x f Cancelled r l n e = record { event = cancelled; takes = tt; lines = rw e }

-- ---- the weight of what remains, where a test passes

-- of m shares n are taken; an order used up weighs nothing, whether it is kept or not
pub taken_weight : (t : Bool) (m m' n : ℕ) → m' ≡ m - n → n ≤ m → cond t m 0 ≡ cond (eqb m' 0) 0 (cond t m' 0) + cond t n 0
taken_weight t m m' n e l = go t (eqb m' 0) refl
  where
    go : (t z : Bool) → eqb m' 0 ≡ z → cond t m 0 ≡ cond z 0 (cond t m' 0) + cond t n 0
    go true true q = omega (arith, eqb-true m' 0 q)
    go true false q = omega arith
    go false true q = omega arith
    go false false q = omega arith

-- of an order that starts all shares remain
pub starts_remaining : (o : Order) → o.executed ≡ 0 → o.cancelled ≡ 0 → o.closed ≡ 0 → remaining o ≡ o.added
unfolding remaining
starts_remaining o e c d = omega arith

pub renewed-remaining : {b : List ℕ} {k : ℕ} {a : Asked} {o o' : Order} → Renewing b k a o o' → remaining o' ≡ o'.added
renewed-remaining {o = o} f = rw f.after (starts_remaining (renewed o f.new f.shares f.price) refl refl refl)
