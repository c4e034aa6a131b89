-- What a verdict comes to, by its number; tests; and 01 gives one number only (`earned_unique`). Assumes nothing.
use Rattle.refusals.specs.declared.Refusal.TheVariants.{Book, NoOrder}
use Rattle.std.specs.Prelude.{◌≡◌, refl, ◌≢◌, Bool, true, false, List, ℕ, eqb, Result, Some, None, Ok, Err}
use Rattle.std.proofs.Common.{sym, ap, ◌∙◌, inl, inr, eqb-true}
use Rattle.std.proofs.lemmas.Bool.{eqb-false}
use Rattle.refusals.specs.Refusals.{refusal_number}
use Rattle.orders.specs.declared.Order.{Order}
use Rattle.decide.specs.declared.Step.TheVariants as step
use Rattle.decide.specs.Decide.{Verdict, refuse, step_of}
use Rattle.decide.specs.Decide.{Seen, unseen, something}
use Rattle.steps.specs.Asked.{Asked, register, start, take, close, replace, nothing as no_more}
use Rattle.apply_theorems.specs.Statements.{IsLive, Broken, IsOrder, first, done, Earned}
use Rattle.apply_theorems.specs.Sights.{lowest-live, Sight, order_sound}
use Rattle.apply_theorems.specs.Sights.Sight.{found_nothing, found_unsound, found_order}
use Rattle.decide.specs.declared.Step.{Step}
use Rattle.refusals.specs.declared.Refusal.{Refusal}

-- the number of a step, and of a verdict
abbrev pub step_number : Result Step Refusal → ℕ
step_number (Err r) = refusal_number r
step_number (Ok step.Plain) = 0
step_number (Ok (step.One f)) = 0
step_number (Ok (step.Two f g)) = 0

abbrev number_in : Verdict → ℕ
number_in v = step_number (step_of v)

-- rest gives the verdict's number; a record, so that rest is found from a goal
pub record Comes (v : Verdict) (rest : ℕ → Type 0) : Type 0 where
  pub number : rest (step_number (step_of v))

-- ---- tests

-- a test that fails exactly where P holds
pub data Test (P : Type 0) : Bool → Type 0 where
  passes : (P → ⊥) → Test P true
  fails : P → Test P false

-- a test of P is one of Q, where both hold alike
pub alike : {P Q : Type 0} {t : Bool} → (P → Q) → (Q → P) → Test P t → Test Q t
alike f g (passes n) = passes (λ q. n (g q))
alike f g (fails p) = fails (f p)

pub differ : (m n : ℕ) → Test (m ≢ n) (eqb m n)
differ m n = go (eqb m n) refl
  where
    go : (t : Bool) → eqb m n ≡ t → Test (m ≢ n) t
    go true e = passes (λ d. d (eqb-true m n e))
    go false e = fails (eqb-false m n e)

-- E, C, X, D, U: 10, 13; next is what a sound order comes to
pub named_comes : {b : List ℕ} {k r s : ℕ} {z : Seen} {rest : ℕ → Type 0} (f : Seen → Verdict)
    → f unseen ≡ refuse NoOrder → f (something None) ≡ refuse Book
    → Sight b k r s z → ((o : Order) → IsOrder b k r o → Comes (f (something (Some o))) rest)
    → Comes (f z) (first (IsLive b k r → ⊥) 10 (first (Broken b k r) 13 rest))
named_comes f p q (found_nothing n) next = record { number = inl (n, ap number_in p) }
named_comes f p q (found_unsound s w e) next =
    record { number = inr (λ n. n (lowest-live w), inl (record { slot = s; lowest = w; unsound = e }, ap number_in q)) }
named_comes {b} {k} {r} f p q (found_order s o w e) next =
    let i : IsOrder b k r o = record { slot = s; lowest = w; sound = e } in
    record { number = inr (λ n. n (lowest-live w), inr (order_sound i, (next o i).number)) }

-- ---- one number only

-- rest gives one number at the most
abbrev pub One : (ℕ → Type 0) → Type 0
One rest = (m n : ℕ) → rest m → rest n → m ≡ n

pub one_of : {P : Type 0} {c : ℕ} {rest : ℕ → Type 0} → One rest → One (first P c rest)
one_of o m n (inl x) (inl y) = x.1 ∙ sym y.1
one_of o m n (inl x) (inr y) = absurd (y.0 x.0)
one_of o m n (inr x) (inl y) = absurd (x.0 y.0)
one_of o m n (inr x) (inr y) = o m n x.1 y.1

pub last : One done
last m n p q = p ∙ sym q

pub earned_unique : (d b : List ℕ) (k : ℕ) (a : Asked) → One (Earned d b k a)
earned_unique d b k (register l symbol) = one_of (one_of last)
earned_unique d b k (start o symbol) = one_of (one_of (one_of (one_of last)))
earned_unique d b k (take how r l n) = one_of (one_of (one_of (one_of last)))
earned_unique d b k (close r l) = one_of (one_of (one_of last))
earned_unique d b k (replace original new l n p) = one_of (one_of (one_of (one_of last)))
earned_unique d b k no_more = last
