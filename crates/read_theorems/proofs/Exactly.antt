-- Each number is given exactly when 01 says so: the answer's number says one thing of the bytes (`says`), and what it says of
-- them no other number says (`said`). Assumes nothing.
use Rattle.std.specs.Prelude.{◌≡◌, refl, ◌↔◌, Bool, true, false, cond, List, ℕ, ◌≤◌, eqb, length, Ok}
use Rattle.std.proofs.Common.{sym, ap, ◌∙◌, inl, inr, arith, eqb-true}
use Rattle.std.proofs.Math.Decide.{ℕ_discrete}
use Rattle.std.proofs.lemmas.Bool.{eqb-false}
use Rattle.refusals.specs.Refusals.{TIME, FIELD, PRICE, SHARES, refusal_number, refusal_of}
use Rattle.layout.specs.Kind.{Cell}
use Rattle.layout.specs.Layout.{cells_of, length_of}
use Rattle.messages.specs.declared.Message.{Message}
use Rattle.messages.specs.Typed.{message}
use Rattle.wellformed.specs.WellFormed.{faulty, refusal, values}
use Rattle.reader.specs.Read.{no_message, type_of, judged_as, answer}
use Rattle.reader.specs.ReadLaws.{no_bytes, unknown_type, wrong-length, right_length}
use Rattle.numbers.specs.Shown.{answer_number}
use Rattle.read_theorems.specs.Statements.{Known, RightLength, WrongLength, WrongType, Earns, Accepted, ReadExactly}
use Rattle.read_theorems.specs.Faults.{fault_range, FoundFault, refusal_found, found_unique}
use Rattle.read_theorems.specs.Faults.FoundFault.{no_fault, first-fault}

-- what the number n says of the bytes
data Says (s : List ℕ) (n : ℕ) : Type 0 where
  long : n ≡ 1 → WrongLength s → Says s n
  strange : n ≡ 2 → WrongType s → Says s n
  judged : RightLength s → FoundFault s (cells_of (type_of s)) n → Says s n

abbrev first_of : Bool → Bool → Bool → Bool → ℕ
first_of t f p n = cond t TIME (cond f FIELD (cond p PRICE (cond n SHARES 0)))

-- the fields' refusal is one that has a name
refusal_named : (s : List ℕ) (cs : List Cell) → (refusal s cs ≡ 0 → ⊥) → refusal_number (refusal_of (refusal s cs)) ≡ refusal s cs
unfolding refusal
refusal_named s cs = go (faulty TIME s cs) (faulty FIELD s cs) (faulty PRICE s cs) (faulty SHARES s cs)
  where
    go : (t f p n : Bool) → (first_of t f p n ≡ 0 → ⊥) → refusal_number (refusal_of (first_of t f p n)) ≡ first_of t f p n
    go true f p n some = refl
    go false true p n some = refl
    go false false true n some = refl
    go false false false true some = refl
    go false false false false some = absurd (some refl)

number-judged : (t : ℕ) (s : List ℕ) → answer_number (judged_as t s) ≡ refusal s (cells_of t)
unfolding judged_as
number-judged t s = go (message t (values s (cells_of t))) (refusal s (cells_of t)) (refusal_named s (cells_of t)) (eqb (refusal s (cells_of t)) 0) refl
  where
    go : (m : Message) (r : ℕ) → ((r ≡ 0 → ⊥) → refusal_number (refusal_of r) ≡ r) → (b : Bool) → eqb r 0 ≡ b
        → answer_number (cond b (Ok m) (no_message r)) ≡ r
    go m r named true e = sym (eqb-true r 0 e)
    go m r named false e = named (eqb-false r 0 e)

-- of bytes with the type's length, the number is the fields' refusal
number_sized : (s : List ℕ) → RightLength s → answer_number (answer s) ≡ refusal s (cells_of (type_of s))
number_sized s z = ap answer_number (right_length s z.known z.sized) ∙ number-judged (type_of s) s

number_long : (s : List ℕ) → WrongLength s → answer_number (answer s) ≡ 1
number_long s (inl e) = ap answer_number (no_bytes s e)
number_long s (inr d) = elim (ℕ_discrete (length s) 0) [ yes e ↦ ap answer_number (no_bytes s e) | no n ↦ ap answer_number (wrong-length s n d.0 d.1) ]

says : (s : List ℕ) → Says s (answer_number (answer s))
says s = elim (ℕ_discrete (length s) 0) [ yes e ↦ long (number_long s (inl e)) (inl e) | no n ↦ typed n ]
  where
    sized : Known s → Dec (length s ≡ length_of (type_of s)) → Says s (answer_number (answer s))
    sized k (no d) = long (number_long s (inr (k, d))) (inr (k, d))
    sized k (yes e) =
        let z : RightLength s = record { known = k; sized = e } in
        judged z (rw (number_sized s z) (refusal_found s (cells_of (type_of s))))

    typed : (length s ≡ 0 → ⊥) → Says s (answer_number (answer s))
    typed n = elim (ℕ_discrete (length_of (type_of s)) 0) [ yes e ↦ strange (ap answer_number (unknown_type s n e)) (n, e) | no k ↦ sized k (ℕ_discrete (length s) (length_of (type_of s))) ]

-- what a number says of the bytes, only it says
said : (s : List ℕ) (n : ℕ) → Says s n → answer_number (answer s) ≡ n
said s n (long e w) = number_long s w ∙ sym e
said s n (strange e w) = ap answer_number (unknown_type s w.0 w.1) ∙ sym e
said s n (judged z f) = number_sized s z ∙ found_unique (refusal_found s (cells_of (type_of s))) f

-- ---- what each number says

is_long : {s : List ℕ} {n : ℕ} → n ≡ 1 → Says s n → WrongLength s
is_long e (long p w) = w
is_long e (strange p w) = absurd (omega arith)
is_long e (judged z (no_fault p a)) = absurd (omega arith)
is_long e (judged z (first-fault f)) = absurd (omega (arith, fault_range f.fault))

is_strange : {s : List ℕ} {n : ℕ} → n ≡ 2 → Says s n → WrongType s
is_strange e (long p w) = absurd (omega arith)
is_strange e (strange p w) = w
is_strange e (judged z (no_fault p a)) = absurd (omega arith)
is_strange e (judged z (first-fault f)) = absurd (omega (arith, fault_range f.fault))

is_done : {s : List ℕ} {n : ℕ} → n ≡ 0 → Says s n → Accepted s
is_done e (long p w) = absurd (omega arith)
is_done e (strange p w) = absurd (omega arith)
is_done e (judged z (no_fault p a)) = (z, a)
is_done e (judged z (first-fault f)) = absurd (omega (arith, fault_range f.fault))

is_earned : {s : List ℕ} {n : ℕ} → 3 ≤ n → Says s n → Earns n s
is_earned l (long p w) = absurd (omega arith)
is_earned l (strange p w) = absurd (omega arith)
is_earned l (judged z (no_fault p a)) = absurd (omega arith)
is_earned l (judged z (first-fault f)) = (z, f)

at_most_six : {s : List ℕ} {n : ℕ} → Says s n → n ≤ 6
at_most_six (long p w) = omega arith
at_most_six (strange p w) = omega arith
at_most_six (judged z (no_fault p a)) = omega arith
at_most_six (judged z (first-fault f)) = omega (arith, fault_range f.fault)

earned : (s : List ℕ) (n : ℕ) → 3 ≤ n → answer_number (answer s) ≡ n ↔ Earns n s
earned s n l = (λ e. is_earned l (rw e at (says s)), λ w. said s n (judged w.0 (first-fault w.1)))

-- each number is given exactly when 01 says so, whatever the bytes
pub read_exactly : (s : List ℕ) → ReadExactly s
read_exactly s =
    record {
      done = (λ e. is_done e (says s), λ w. said s 0 (judged w.0 (no_fault refl w.1)));
      wrong-length = (λ e. is_long e (says s), λ w. said s 1 (long refl w));
      wrong_type = (λ e. is_strange e (says s), λ w. said s 2 (strange refl w));
      time = earned s 3 (omega arith);
      field = earned s 4 (omega arith);
      price = earned s 5 (omega arith);
      shares = earned s 6 (omega arith);
      no_other = at_most_six (says s);
    }
