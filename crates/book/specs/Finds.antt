-- What a search that goes up has shown is what `find` and `lowest_free` answer, and what their answers say of the slot.
-- Assumes nothing.
use Rattle.std.specs.Prelude.{◌≡◌, Bool, true, false, List, ℕ, ◌+◌, ◌*◌, ◌≤◌, ◌<◌, eqb, get_or, Option, Some, None}
use Rattle.std.proofs.Common.{sym, subst, ⊎_elim, le_refl, le_of_lt, lt_irrefl, add-zero, arith, lt-ltb, le-ltb, eq-eqb, ne_eqb, eqb-true}
use Rattle.laws.specs.Bools.{and_left, and_right, and-false}
use Rattle.laws.specs.Least.{least_is, least_none, least_at, lt-or-le}
use Rattle.laws.specs.Definitions.{least}
use Rattle.kinds.specs.declared.Slot.{Slot}
use Rattle.book.specs.Book.{live, number_at, holds, is_free, found_below, find, lowest_free}

-- ---- whether a slot holds a reference

-- a slot's number 0 is where the slot begins
pub number_0 : (b : List ℕ) (k s : ℕ) → number_at b k s 0 ≡ get_or b (k + 4 * s) 0
unfolding number_at
number_0 b k s = rw add-zero

pub holds_yes : (b : List ℕ) (k r s : ℕ) → live b s ≡ 1 → number_at b k s 0 ≡ r → holds b k r s ≡ true
unfolding holds
holds_yes b k r s l e = rw (eq-eqb _ _ l, eq-eqb _ _ e)

pub holds_dead : (b : List ℕ) (k r s : ℕ) → (live b s ≡ 1 → ⊥) → holds b k r s ≡ false
unfolding holds
holds_dead b k r s l = rw (ne_eqb _ _ l)

pub holds_other : (b : List ℕ) (k r s : ℕ) → (number_at b k s 0 ≡ r → ⊥) → holds b k r s ≡ false
unfolding holds
holds_other b k r s e = rw (ne_eqb _ _ e) (and-false (eqb (live b s) 1))

pub holds-live : (b : List ℕ) (k r s : ℕ) → holds b k r s ≡ true → live b s ≡ 1
unfolding holds
holds-live b k r s e = eqb-true _ _ (and_left (eqb (live b s) 1) (eqb (number_at b k s 0) r) e)

pub holds_same : (b : List ℕ) (k r s : ℕ) → holds b k r s ≡ true → number_at b k s 0 ≡ r
unfolding holds
holds_same b k r s e = eqb-true _ _ (and_right (eqb (live b s) 1) (eqb (number_at b k s 0) r) e)

-- ---- for any test: the first that passes, and none

pub found_at : (p : ℕ → Bool) (n s : ℕ) → s < n → ((i : ℕ) → i < s → p i ≡ false) → p s ≡ true
    → found_below n (least p n) ≡ Some (record { 0 = s })
unfolding found_below
found_at p n s l none here = rw (least_is p n s (le_of_lt l) none (λ _. here), lt-ltb _ _ l)

pub found_none : (p : ℕ → Bool) (n : ℕ) → ((i : ℕ) → i < n → p i ≡ false) → found_below n (least p n) ≡ None
unfolding found_below
found_none p n none = rw (least_is p n n (le_refl n) none (λ l. absurd (lt_irrefl n l)), le-ltb n n (le_refl n))

pub below_yes : (n s : ℕ) → s < n → found_below n s ≡ Some (record { 0 = s })
unfolding found_below
below_yes n s l = rw (lt-ltb _ _ l)

pub below_no : (n s : ℕ) → n ≤ s → found_below n s ≡ None
unfolding found_below
below_no n s l = rw (le-ltb _ _ l)

-- an answer read back: the slot passes the test
pub found_passes : (p : ℕ → Bool) (n : ℕ) (s : Slot) → found_below n (least p n) ≡ Some s → (s.0 < n) × (p s.0 ≡ true)
found_passes p n s e =
    ⊎_elim
    (λ l.
    let q = below_yes n (least p n) l in
    let same : least p n ≡ s.0 = cc in
    (omega arith, subst (λ (x : ℕ). p x ≡ true) same (least_at p n l)))
    (λ l. let q = below_no n (least p n) l in let z : ◌≡◌ {A = ℕ} 0 1 = cc in absurd (omega arith))
    (lt-or-le (least p n) n)

-- no answer read back: nothing passes the test
pub none_passes : (p : ℕ → Bool) (n : ℕ) → found_below n (least p n) ≡ None → (i : ℕ) → i < n → p i ≡ false
none_passes p n e i l =
    least_none p n i
    (⊎_elim
    (λ h. let q = below_yes n (least p n) h in let z : ◌≡◌ {A = ℕ} 0 1 = cc in absurd (omega arith))
    (λ h. omega arith)
    (lt-or-le (least p n) n))

-- ---- the order with a reference

pub find_at : (b : List ℕ) (k r s : ℕ) → s < 64 * k → ((i : ℕ) → i < s → holds b k r i ≡ false) → holds b k r s ≡ true
    → Some (record { 0 = s }) ≡ find b k r
unfolding find
find_at b k r s l none here = sym (found_at (holds b k r) (64 * k) s l none here)

pub find_none : (b : List ℕ) (k r : ℕ) → ((i : ℕ) → i < 64 * k → holds b k r i ≡ false) → None ≡ find b k r
unfolding find
find_none b k r none = sym (found_none (holds b k r) (64 * k) none)

-- a slot that is found is in the book, live, and holds the reference
pub found_slot : (b : List ℕ) (k r : ℕ) (s : Slot) → find b k r ≡ Some s
    → (s.0 < 64 * k) × (live b s.0 ≡ 1) × (number_at b k s.0 0 ≡ r)
unfolding find
found_slot b k r s e =
    let q = found_passes (holds b k r) (64 * k) s e in
    (q.0, holds-live b k r s.0 q.1, holds_same b k r s.0 q.1)

-- no live slot holds a reference that is not found
pub nowhere : (b : List ℕ) (k r : ℕ) → find b k r ≡ None → (i : ℕ) → i < 64 * k → holds b k r i ≡ false
unfolding find
nowhere b k r e = none_passes (holds b k r) (64 * k) e

-- ---- the lowest free slot

pub free_yes : (b : List ℕ) (s : ℕ) → live b s ≡ 0 → is_free b s ≡ true
unfolding is_free
free_yes b s e = eq-eqb _ _ e

pub free_none : (b : List ℕ) (k : ℕ) → ((i : ℕ) → i < 64 * k → is_free b i ≡ false) → None ≡ lowest_free b k
unfolding lowest_free
free_none b k none = sym (found_none (is_free b) (64 * k) none)

-- the lowest free slot is in the book, and free
pub free_slot : (b : List ℕ) (k : ℕ) (s : Slot) → lowest_free b k ≡ Some s → (s.0 < 64 * k) × (live b s.0 ≡ 0)
unfolding lowest_free is_free
free_slot b k s e =
    let q = found_passes (is_free b) (64 * k) s e in
    (q.0, eqb-true _ _ q.1)

-- where there is no lowest free slot, none is free
pub full : (b : List ℕ) (k : ℕ) → lowest_free b k ≡ None → (i : ℕ) → i < 64 * k → is_free b i ≡ false
unfolding lowest_free
full b k e = none_passes (is_free b) (64 * k) e

-- ---- a slot that was found, or none

-- it lies in the book
abbrev pub Within : ℕ → Option Slot → Type 0
Within k (Some s) = s.0 < 64 * k
Within k None = Unit {0}

pub find_within : (b : List ℕ) (k r : ℕ) (f : Option Slot) → f ≡ find b k r → Within k f
find_within b k r (Some s) e = (found_slot b k r s (sym e)).0
find_within b k r None e = tt
