-- Which bytes are types: exactly the 23 letters that 01 prints have a length, and it is the length that 01 prints. And a fact of
-- every type from the fact of each of the 23. Assumes nothing.
use Rattle.std.specs.Prelude.{◌≡◌, refl, ◌↔◌, Bool, true, false, cond, ◌&&◌, ℕ, ◌≤◌, eqb, leb}
use Rattle.std.proofs.Common.{sym, ap, subst, ◌∙◌, inl, inr, arith, eqb-true, leb-true}
use mathlib.Core.List.Memᴰ
use mathlib.Core.List.Memᴰ.{head as here}
use mathlib.Core.List.Memᴰ.{tail as there}
use mathlib.Core.List.{List, [], ◌∷◌, Memᴰ as Among}
use Rattle.std.proofs.Math.Decide.{ℕ_discrete}
use Rattle.laws.specs.Bools.{and_left, and_right}
use Rattle.layout.specs.Layout.{length_of}
use Rattle.layout.specs.Chained.{Printed, printed, printed_for, lengths_printed}
use Rattle.read_theorems.specs.Statements.{IsPrinted}

-- the test f passes at every entry
abbrev every : (Printed → Bool) → List Printed → Bool
every f [] = true
every f (p ∷ ps) = f p && every f ps

at_entry : (f : Printed → Bool) {p : Printed} {ps : List Printed} → every f ps ≡ true → Among p ps → f p ≡ true
at_entry f e (here {x = x} {xs = xs} q) = rw q (and_left (f x) (every f xs) e)
at_entry f e (there {x = x} {xs = xs} m) = at_entry f (and_right (f x) (every f xs) e) m

-- the length of each type is the one that 01 prints beside its letter
pub length-printed : (p : Printed) → Among p printed → length_of p.letter ≡ p.bytes
length-printed p m =
    lengths_printed p.letter ∙ eqb-true _ _ (at_entry (λ p. eqb (printed_for printed p.letter) p.bytes) refl m)

-- each of them is some bytes long
some_bytes : (p : Printed) → Among p printed → 1 ≤ p.bytes
some_bytes p m = leb-true _ _ (at_entry (λ p. leb 1 p.bytes) refl m)

-- a byte with a length is one of the letters
find : (t : ℕ) (ps : List Printed) → (printed_for ps t ≡ 0 → ⊥) → (p : Printed) × Among p ps × (t ≡ p.letter)
find t [] n = absurd (n refl)
find t (p ∷ ps) n = go (eqb t p.letter) refl n (find t ps)
  where
    go : (b : Bool) → eqb t p.letter ≡ b → (cond b p.bytes (printed_for ps t) ≡ 0 → ⊥) → ((printed_for ps t ≡ 0 → ⊥) → (q : Printed) × Among q ps × (t ≡ q.letter))
        → (q : Printed) × Among q (p ∷ ps) × (t ≡ q.letter)
    go true e n rest = (p, here refl, eqb-true t p.letter e)
    go false e n rest = let r = rest n in (r.0, there r.1, r.2)

-- a byte has a length exactly where it is one of the 23
pub is_type : (t : ℕ) → (length_of t ≡ 0 → ⊥) ↔ IsPrinted t
is_type t = (
  λ k. let r = find t printed (λ e. k (lengths_printed t ∙ e)) in record { entry = r.0; among = r.1; same = r.2 },
  λ r e. omega (arith, ap length_of r.same, length-printed r.entry r.among, some_bytes r.entry r.among),
)

-- and has none exactly where it is none of the 23
pub no_type : (t : ℕ) → length_of t ≡ 0 ↔ (IsPrinted t → ⊥)
no_type t = (
  λ e r. (is_type t).1 r e,
  λ n. elim (ℕ_discrete (length_of t) 0) [ yes e ↦ e | no k ↦ absurd (n ((is_type t).0 k)) ],
)

-- ---- a fact of each type

-- P holds at the letter of every entry
pub data Each (P : ℕ → Type 0) : List Printed → Type 0 where
  table-end : Each P []
  one_type : {p : Printed} {ps : List Printed} → P p.letter → Each P ps → Each P (p ∷ ps)

infixr 5 ◌▹◌
pub ◌▹◌ : {P : ℕ → Type 0} {p : Printed} {ps : List Printed} → P p.letter → Each P ps → Each P (p ∷ ps)
x ▹ r = one_type x r

at_letter : {P : ℕ → Type 0} {ps : List Printed} → Each P ps → (p : Printed) → Among p ps → P p.letter
at_letter {P} table-end p m = absurd (Memᴰ.not-nil m)
at_letter {P} (one_type x r) p m = elim (Memᴰ.cases_cons m) [ inl e ↦ rw e x | inr n ↦ at_letter r p n ]

-- what holds at each of the 23 letters holds at every type
pub at_type : (P : ℕ → Type 0) → Each P printed → (t : ℕ) → (length_of t ≡ 0 → ⊥) → P t
at_type P f t k = let r = (is_type t).0 k in subst P (sym r.same) (at_letter f r.entry r.among)
