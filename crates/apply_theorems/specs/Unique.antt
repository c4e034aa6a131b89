-- Two ends of a call that the contract of `apply` allows for the same tables and bytes are one, and so are two outcomes with the
-- same numbers: an outcome is made by its numbers (`outcome_back`). Assumes nothing.
use Rattle.std.specs.Prelude.{◌≡◌, refl, ◌≢◌, true, false, cond, List, [], ◌∷◌, ℕ, zero, suc, ◌<◌, eqb, ltb, Result, Ok, Err}
use Rattle.std.proofs.Common.{sym, ap, ◌∙◌, arith, ne_eqb, ltb-true}
use Rattle.laws.specs.Lists.{nth}
use Rattle.refusals.specs.Refusals.{refusal_of, of_number}
use Rattle.kinds.specs.declared.Side.{Side}
use Rattle.kinds.specs.declared.Side.TheVariants.{Buy, Sell}
use Rattle.kinds.specs.Sides.{side_byte, side_of}
use Rattle.kinds.specs.SideLaws.{side_back}
use Rattle.messages.specs.declared.Message.{Message}
use Rattle.messages.specs.Numbers.{letter_of, values_of}
use Rattle.messages.specs.Typed.{message}
use Rattle.messages.specs.TypedLaws.{message_back}
use Rattle.decide.specs.declared.Figures.{Figures}
use Rattle.numbers.specs.Shown.{padded}
use Rattle.apply.specs.declared.Outcome.TheVariants.{Accepted, Moved, Replaced}
use Rattle.apply.specs.Apply.{After, applied, number_of}
use Rattle.outcomes.specs.Outcomes.{row_of, order_row}
use Rattle.apply.specs.declared.Outcome.{Outcome}
use Rattle.refusals.specs.declared.Refusal.{Refusal}

-- ---- the contract

-- two ends of a call agree in all three parts
pub record SameOutcome (r r' : Result Outcome Refusal) (d d' b b' : List ℕ) : Type 0 where
  pub outcome : r ≡ r'
  pub directory : d ≡ d'
  pub book : b ≡ b'

pub outcome_unique : (d b s : List ℕ) (r r'' : Result Outcome Refusal) (d' d'' b' b'' : List ℕ)
    → record { outcome = r; directory = d'; book = b' } ≡ applied d b s
    → record { outcome = r''; directory = d''; book = b'' } ≡ applied d b s
    → SameOutcome r r'' d' d'' b' b''
outcome_unique d b s r r'' d' d'' b' b'' p q =
    let e = p ∙ sym q in
    record { outcome = ap (λ (x : After). x.outcome) e; directory = ap (λ (x : After). x.directory) e; book = ap (λ (x : After). x.book) e }

-- ---- the numbers of a message

-- no type byte is 0
letter_some : (x : Message) → letter_of x ≢ 0
letter_some x e =
    let z : letter_of (message (letter_of x) (values_of x)) ≡ letter_of x = ap letter_of (message_back x) in
    let y : ◌≡◌ {A = ℕ} 83 0 = rw e at z in
    omega arith

nth-padded : (n : ℕ) (v : List ℕ) (i : ℕ) → i < n → nth (padded n v) i ≡ nth v i
nth-padded zero v i l = absurd (omega arith)
nth-padded (suc n) [] zero l = refl
nth-padded (suc n) [] (suc i) l = nth-padded n [] i (omega arith)
nth-padded (suc n) (x ∷ v) zero l = refl
nth-padded (suc n) (x ∷ v) (suc i) l = nth-padded n v i (omega arith)

-- a message is made by the first 17 of its numbers
message-nth : (t : ℕ) (v w : List ℕ) → ((i : ℕ) → ltb i 17 ≡ true → nth v i ≡ nth w i) → message t v ≡ message t w
message-nth t v w h = simp h

shown_back : (x : Message) → message (letter_of x) (padded 17 (values_of x)) ≡ x
shown_back x =
    let v = values_of x in
    message-nth (letter_of x) (padded 17 v) v (λ i l. nth-padded 17 v i (ltb-true i 17 l)) ∙ message_back x

-- ---- the numbers of an outcome

pub side_some : (x : Side) → eqb (side_byte x) 0 ≡ false
side_some Buy = refl
side_some Sell = refl

abbrev tail : List ℕ → List ℕ
tail [] = []
tail (x ∷ v) = v

-- the figures that stand from place i on
abbrev figures_at : List ℕ → ℕ → Figures
figures_at w i =
    record {
      locate = record { 0 = nth w i };
      side = side_of (nth w (suc i));
      price = record { 0 = nth w (suc (suc i)) };
      shares = nth w (suc (suc (suc i)));
      remains = nth w (suc (suc (suc (suc i))));
    }

-- the outcome with a number, a row and figures: no type byte is 0, and no side is
abbrev outcome_of : ℕ → List ℕ → List ℕ → Result Outcome Refusal
outcome_of n v w =
    let m = message (nth v 0) (tail v) in
    cond (eqb (nth v 0) 0) (Err (refusal_of n))
    (cond (eqb (nth w 1) 0) (Ok (Accepted m))
    (cond (eqb (nth w 6) 0) (Ok (Moved m (figures_at w 0))) (Ok (Replaced m (figures_at w 0) (figures_at w 5)))))

outcome_back : (o : Result Outcome Refusal) → outcome_of (number_of o) (row_of o) (order_row o) ≡ o
outcome_back (Err r) = ap Err (of_number r)
outcome_back (Ok (Accepted m)) = rw (ne_eqb _ _ (letter_some m), shown_back m)
outcome_back (Ok (Moved m f)) = rw (ne_eqb _ _ (letter_some m), side_some f.side, shown_back m, side_back f.side)
outcome_back (Ok (Replaced m f g)) =
    rw (ne_eqb _ _ (letter_some m), side_some f.side, side_some g.side, shown_back m, side_back f.side, side_back g.side)

-- two outcomes with the same numbers are one
pub outcome_numbers_unique : (o o' : Result Outcome Refusal) → number_of o ≡ number_of o' → row_of o ≡ row_of o' → order_row o ≡ order_row o' → o ≡ o'
outcome_numbers_unique o o' n v w = sym (outcome_back o) ∙ rw (n, v, w) (outcome_back o')
