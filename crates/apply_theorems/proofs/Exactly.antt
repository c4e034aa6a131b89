-- Each number is given exactly when 01 says so: the number that is given is one that 01 gives (`given`), and 01 gives one number
-- only (`given_unique`). Assumes nothing.
use Rattle.std.specs.Prelude.{◌≡◌, refl, ◌⊎◌, ◌≢◌, Bool, true, false, cond, List, ℕ, eqb, length, Result, Ok, Err}
use Rattle.std.proofs.Common.{sym, ap, subst, ◌∙◌, inl, inr, arith}
use Rattle.std.proofs.lemmas.Bool.{eqb-false}
use Rattle.laws.specs.Bools.{true_not_false}
use Rattle.refusals.specs.Refusals.{LENGTH, TYPE, refusal_number, number_some, refusal_of}
use Rattle.layout.specs.Layout.{cells_of, length_of}
use Rattle.messages.specs.declared.Message.{Message}
use Rattle.messages.specs.Typed.{message}
use Rattle.wellformed.specs.WellFormed.{refusal, values}
use Rattle.book.specs.Book.{words_of}
use Rattle.fresh.specs.Fresh.{good_shapes}
use Rattle.reader.specs.Read.{no_message, type_of, judged_as, answer}
use Rattle.numbers.specs.Shown.{answer_number}
use Rattle.decide.specs.declared.Step.TheVariants as step
use Rattle.decide.specs.Decide.{step_of}
use Rattle.steps.specs.Asked.{asked}
use Rattle.steps.specs.Steps.{verdict_on}
use Rattle.apply.specs.Apply.{After, concluded, applied, number_of}
use Rattle.apply.specs.ApplyLaws.{bad_shapes, unread, judgement}
use Rattle.apply_theorems.specs.Statements.{Earned, Judged, Given, ApplyExactly}
use Rattle.apply_theorems.specs.Means.{shaped_good, shaped_unique, good_shaped}
use Rattle.apply_theorems.specs.Earns.{step_number, earned_unique}
use Rattle.apply_theorems.proofs.Earns.{earned}
use Rattle.decide.specs.declared.Step.{Step}
use Rattle.refusals.specs.declared.Refusal.{Refusal}

-- ---- a refusal of reading has a number that is not 0

abbrev Numbered : Result Message Refusal → Type 0
Numbered (Ok m) = Unit {0}
Numbered (Err r) = refusal_number r ≢ 0

numbered-judged : (t : ℕ) (s : List ℕ) → Numbered (judged_as t s)
unfolding judged_as
numbered-judged t s = go (message t (values s (cells_of t))) (refusal s (cells_of t)) (eqb (refusal s (cells_of t)) 0) refl
  where
    go : (m : Message) (n : ℕ) (b : Bool) → eqb n 0 ≡ b → Numbered (cond b (Ok m) (no_message n))
    go m n true e = tt
    go m n false e = number_some (refusal_of n)

numbered : (s : List ℕ) → Numbered (answer s)
unfolding answer
numbered s =
    let t = type_of s in
    go (eqb (length s) 0) (eqb (length_of t) 0) (eqb (length s) (length_of t)) (judged_as t s) (numbered-judged t s)
  where
    go : (a b c : Bool) (x : Result Message Refusal) → Numbered x → Numbered (cond a (no_message LENGTH) (cond b (no_message TYPE) (cond c x (no_message LENGTH))))
    go true b c x n = λ e. omega arith
    go false true c x n = λ e. omega arith
    go false false true x n = n
    go false false false x n = λ e. omega arith

-- ---- the number that is given

abbrev number_after : After → ℕ
number_after x = number_of x.outcome

number-concluded : (m : Message) (r : Result Step Refusal) → number_of (concluded m r) ≡ step_number r
number-concluded m (Err r) = refl
number-concluded m (Ok step.Plain) = refl
number-concluded m (Ok (step.One f)) = refl
number-concluded m (Ok (step.Two f g)) = refl

-- it is one that 01 gives
given : (d b s : List ℕ) → Given d b s (number_of (applied d b s).outcome)
given d b s = go (good_shapes d b) refl
  where
    read : good_shapes d b ≡ true → (a : Result Message Refusal) → answer s ≡ a
        → ((answer_number (answer s) ≡ number_of (applied d b s).outcome) × (number_of (applied d b s).outcome ≢ 0))
        ⊎ Judged d b s (words_of (length b)) (number_of (applied d b s).outcome)
    read e (Err r) f =
        let n : number_of (applied d b s).outcome ≡ refusal_number r = ap number_after (unread d b s e f) in
        inl (ap answer_number f ∙ sym n, λ z. subst Numbered f (numbered s) (sym n ∙ z))
    read e (Ok m) f =
        let k = words_of (length b) in
        let n = ap number_after (judgement d b s e f) ∙ number-concluded m (step_of (verdict_on d b k (asked m))) in
        inr (record { message = m; read = f; earned = subst (Earned d b k (asked m)) (sym n) (earned d b k (asked m)).number })

    go : (t : Bool) → good_shapes d b ≡ t → Given d b s (number_of (applied d b s).outcome)
    go true e = inr (words_of (length b), good_shaped d b e, read e (answer s) refl)
    go false e = inl ((λ k z. true_not_false _ (shaped_good z) e), ap number_after (bad_shapes d b s e))

-- and 01 gives one only
given_unique : (d b s : List ℕ) (m n : ℕ) → Given d b s m → Given d b s n → m ≡ n
given_unique d b s m n = go
  where
    accepted : {k i : ℕ} → Judged d b s k i → answer_number (answer s) ≡ 0
    accepted j = ap answer_number j.read

    judged_once : {k k' : ℕ} → k ≡ k' → Judged d b s k m → Judged d b s k' n → m ≡ n
    judged_once {k} {k'} e i j =
        let p = i.read in
        let q = j.read in
        let f : i.message ≡ j.message = cc in
        earned_unique d b k' (asked j.message) m n (rw (e, f) at i.earned) j.earned

    read_once : {k k' : ℕ} → k ≡ k' → ((answer_number (answer s) ≡ m) × (m ≢ 0)) ⊎ Judged d b s k m
        → ((answer_number (answer s) ≡ n) × (n ≢ 0)) ⊎ Judged d b s k' n → m ≡ n
    read_once e (inl x) (inl y) = sym x.0 ∙ y.0
    read_once e (inl x) (inr j) = absurd (x.1 (sym x.0 ∙ accepted j))
    read_once e (inr i) (inl y) = absurd (y.1 (sym y.0 ∙ accepted i))
    read_once e (inr i) (inr j) = judged_once e i j

    go : Given d b s m → Given d b s n → m ≡ n
    go (inl x) (inl y) = x.1 ∙ sym y.1
    go (inl x) (inr y) = absurd (x.0 y.0 y.1)
    go (inr x) (inl y) = absurd (y.0 x.0 x.1)
    go (inr x) (inr y) = read_once (shaped_unique x.1 y.1) x.2 y.2

-- each number is given exactly when 01 says so, whatever the tables and the bytes
pub apply_exactly : (d b s : List ℕ) → ApplyExactly d b s
apply_exactly d b s n = (
  λ e. subst (Given d b s) e (given d b s),
  λ g. given_unique d b s (number_of (applied d b s).outcome) n (given d b s) g,
)
