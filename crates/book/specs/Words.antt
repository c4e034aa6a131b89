-- The book's slots a map number at a time: slot i of map number j is slot 64 j + i. A search that goes up by map numbers
-- has shown what `find` and `lowest_free` answer. Assumes nothing.
use Rattle.std.specs.Prelude.{◌≡◌, Bool, true, false, List, ℕ, ◌+◌, ◌-◌, ◌*◌, ◌/◌, ◌%◌, ◌^◌, ◌≤◌, ◌<◌, eqb, get_or, Some}
use Rattle.std.proofs.Common.{sym, ap, ◌∙◌, subst, ⊎_elim, le_refl, le_of_lt, lt_irrefl, div-one, pow-suc, add-one, arith, below_more, below_none, eq-eqb, ne_eqb}
use Rattle.std.proofs.Math.Nat.{div-div-eq-div-mul}
use Rattle.laws.specs.Least.{least_is, least_none, least_at, least_ext, lt-or-le}
use Rattle.laws.specs.Definitions.{bit, least}
use Rattle.book.specs.Book.{live, holds, is_free, found_below, find, lowest_free}
use Rattle.book.specs.Finds.{number_0, holds_yes, holds_dead, holds_other, found_at}

-- slot i of map number j is live and holds r
unfoldable pub in_word : List ℕ → ℕ → ℕ → ℕ → ℕ → Bool
in_word b k r j i = holds b k r (64 * j + i)

pub live_word : (b : List ℕ) (j i : ℕ) → i < 64 → live b (64 * j + i) ≡ bit (get_or b j 0) i
unfolding live
live_word b j i l =
    let d : (64 * j + i) / 64 ≡ j = omega arith in
    let m : (64 * j + i) % 64 ≡ i = omega arith in
    rw (d, m)

pub in_dead : (b : List ℕ) (k r j i : ℕ) → i < 64 → bit (get_or b j 0) i ≡ 0 → in_word b k r j i ≡ false
unfolding in_word
in_dead b k r j i l e =
    holds_dead b k r (64 * j + i) (λ q. let z : ◌≡◌ {A = ℕ} 0 1 = sym e ∙ sym (live_word b j i l) ∙ q in omega arith)

pub in_other : (b : List ℕ) (k r j i : ℕ) → (get_or b (k + 4 * (64 * j + i)) 0 ≡ r → ⊥) → in_word b k r j i ≡ false
unfolding in_word
in_other b k r j i d = holds_other b k r (64 * j + i) (λ q. d (sym (number_0 b k (64 * j + i)) ∙ q))

pub in_yes : (b : List ℕ) (k r j i : ℕ) → i < 64 → bit (get_or b j 0) i ≡ 1 → get_or b (k + 4 * (64 * j + i)) 0 ≡ r → in_word b k r j i ≡ true
unfolding in_word
in_yes b k r j i l o e =
    holds_yes b k r (64 * j + i) (live_word b j i l ∙ o) (number_0 b k (64 * j + i) ∙ e)

-- ---- within a map number: the first that passes, or none

pub first_at : (p : ℕ → Bool) (t : ℕ) → t < 64 → ((i : ℕ) → i < t → p i ≡ false) → p t ≡ true → t ≡ least p 64
first_at p t l none here = sym (least_is p 64 t (le_of_lt l) none (λ _. here))

pub word_none : (p : ℕ → Bool) → ((i : ℕ) → i < 64 → p i ≡ false) → 64 ≡ least p 64
word_none p none = sym (least_is p 64 64 (le_refl 64) none (λ l. absurd (lt_irrefl 64 l)))

-- ---- from map number to map number

-- none below 64 j, and none of n slots from there
below_or_in : (p : ℕ → Bool) (j n : ℕ) → ((i : ℕ) → i < 64 * j → p i ≡ false) → ((i : ℕ) → i < n → p (64 * j + i) ≡ false)
    → (i : ℕ) → i < 64 * j + n → p i ≡ false
below_or_in p j n old new i l =
    ⊎_elim
    (λ h. old i h)
    (λ h.
    let e : 64 * j + (i - 64 * j) ≡ i = omega arith in
    subst (λ (x : ℕ). p x ≡ false) e (new (i - 64 * j) (omega arith)))
    (lt-or-le i (64 * j))

-- t is what the search through map number j gave: it is the answer, for any test
block_at : (p : ℕ → Bool) (k j t : ℕ) → j < k → ((i : ℕ) → i < 64 * j → p i ≡ false)
    → t ≡ least (λ i. p (64 * j + i)) 64 → t < 64 → Some (record { 0 = 64 * j + t }) ≡ found_below (64 * k) (least p (64 * k))
block_at p k j t lj old e l =
    sym
    (found_at p (64 * k) (64 * j + t) (omega arith)
    (below_or_in p j t old (λ i q. least_none (λ i. p (64 * j + i)) 64 i (subst (λ (x : ℕ). i < x) e q)))
    (subst (λ (x : ℕ). p (64 * j + x) ≡ true) (sym e) (least_at (λ i. p (64 * j + i)) 64 (subst (λ (x : ℕ). x < 64) e l))))

-- it gave 64: go on to the next
block_more : (p : ℕ → Bool) (j t : ℕ) → ((i : ℕ) → i < 64 * j → p i ≡ false)
    → t ≡ least (λ i. p (64 * j + i)) 64 → 64 ≤ t → (i : ℕ) → i < 64 * (j + 1) → p i ≡ false
block_more p j t old e l i h = below_or_in p j 64 old (λ i q. least_none (λ i. p (64 * j + i)) 64 i (omega arith)) i (omega arith)

pub word_at : (b : List ℕ) (k r j t : ℕ) → j < k → ((i : ℕ) → i < 64 * j → holds b k r i ≡ false)
    → t ≡ least (in_word b k r j) 64 → t < 64 → Some (record { 0 = 64 * j + t }) ≡ find b k r
unfolding in_word find
word_at b k r j t lj old e l = block_at (holds b k r) k j t lj old e l

pub word_more : (b : List ℕ) (k r j t : ℕ) → ((i : ℕ) → i < 64 * j → holds b k r i ≡ false)
    → t ≡ least (in_word b k r j) 64 → 64 ≤ t → (i : ℕ) → i < 64 * (j + 1) → holds b k r i ≡ false
unfolding in_word
word_more b k r j t old e l = block_more (holds b k r) j t old e l

-- ---- free slots

-- bit i of a map number is 0
unfoldable pub is_zero : ℕ → ℕ → Bool
is_zero w i = eqb (bit w i) 0

-- a map number's free slots are its zero bits
free_word : (b : List ℕ) (j i : ℕ) → i < 64 → is_zero (get_or b j 0) i ≡ is_free b (64 * j + i)
unfolding is_zero is_free
free_word b j i l = ap (λ (x : ℕ). eqb x 0) (sym (live_word b j i l))

pub free_word_at : (b : List ℕ) (k j t : ℕ) → j < k → ((i : ℕ) → i < 64 * j → is_free b i ≡ false)
    → t ≡ least (is_zero (get_or b j 0)) 64 → t < 64 → Some (record { 0 = 64 * j + t }) ≡ lowest_free b k
unfolding lowest_free
free_word_at b k j t lj old e l =
    block_at (is_free b) k j t lj old (e ∙ least_ext (is_zero (get_or b j 0)) (λ i. is_free b (64 * j + i)) 64 (free_word b j)) l

pub free_word_more : (b : List ℕ) (j t : ℕ) → ((i : ℕ) → i < 64 * j → is_free b i ≡ false)
    → t ≡ least (is_zero (get_or b j 0)) 64 → 64 ≤ t → (i : ℕ) → i < 64 * (j + 1) → is_free b i ≡ false
free_word_more b j t old e l =
    block_more (is_free b) j t old (e ∙ least_ext (is_zero (get_or b j 0)) (λ i. is_free b (64 * j + i)) 64 (free_word b j)) l

-- ---- the bits of a map number, by halving

-- rest is w without its lowest i bits, none of which is 0
pub record Halved (w i rest : ℕ) : Type 0 where
  pub below : i ≤ 64
  pub rests : rest ≡ w / 2 ^ i
  pub ones : (t : ℕ) → t < i → is_zero w t ≡ false

pub word_whole : (w : ℕ) → Halved w 0 w
word_whole w = record { below = omega arith; rests = sym (div-one w); ones = below_none (λ t. is_zero w t ≡ false) }

halving : (w i : ℕ) → w / 2 ^ i / 2 ≡ w / 2 ^ (i + 1)
halving w i = div-div-eq-div-mul w (2 ^ i) 2 ∙ ap (λ (x : ℕ). w / x) (sym (rw add-one (pow-suc 2 i)))

pub half : (w i rest : ℕ) → Halved w i rest → i < 64 → (rest % 2 ≡ 0 → ⊥) → Halved w (i + 1) (rest / 2)
unfolding is_zero bit
half w i rest h l n = record {
  below = omega arith;
  rests = ap (λ (x : ℕ). x / 2) h.rests ∙ halving w i;
  ones = below_more (λ t. is_zero w t ≡ false) i h.ones (ne_eqb (w / 2 ^ i % 2) 0 (λ q. n (ap (λ (x : ℕ). x % 2) h.rests ∙ q)));
}

pub zero_at : (w i rest : ℕ) → Halved w i rest → i < 64 → rest % 2 ≡ 0 → i ≡ least (is_zero w) 64
unfolding is_zero bit
zero_at w i rest h l e =
    first_at (is_zero w) i l h.ones (eq-eqb (w / 2 ^ i % 2) 0 (ap (λ (x : ℕ). x % 2) (sym h.rests) ∙ e))

pub no_zero : (w i rest : ℕ) → Halved w i rest → 64 ≤ i → 64 ≡ least (is_zero w) 64
no_zero w i rest h l = word_none (is_zero w) (λ t q. h.ones t (omega arith))
