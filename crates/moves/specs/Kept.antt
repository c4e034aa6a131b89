-- What a step keeps of the tables' shapes: their lengths, whatever the verdict, and that every number fits 64 bits. Assumes nothing.
use Rattle.std.specs.Prelude.{◌≡◌, refl, ◌≢◌, Bool, true, false, cond, List, ℕ, ◌+◌, ◌*◌, ◌/◌, ◌%◌, ◌≤◌, ◌<◌, eqb, length, get_or, set, Option, Some, None}
use Rattle.std.proofs.Common.{ap, ◌∙◌, ⊎_elim, get_or-set_same, get_or-set_other}
use native.Mathlib.Omega.{arith}
use Rattle.std.proofs.lemmas.Bool.{eqb-false}
use Rattle.std.proofs.Math.Seq.{set_out}
use Rattle.laws.specs.Bit.{set_bit-lt}
use Rattle.laws.specs.Least.{same_or, lt-or-le}
use Rattle.laws.specs.Definitions.{set_bit, clear_bit}
use Rattle.kinds.specs.Admission.{maximum}
use Rattle.kinds.specs.declared.Side.{Side}
use Rattle.kinds.specs.declared.Side.TheVariants.{Buy, Sell}
use Rattle.kinds.specs.Sides.{side_byte}
use Rattle.directory.specs.DirectoryLaws.{registered_below, registered-length}
use Rattle.book.specs.Book.{four, put_slot, clear_slot, lowest_free}
use Rattle.book.specs.Slots.{put-length, clear_length}
use Rattle.orders.specs.declared.Order.{Order}
use Rattle.orders.specs.Order.{remaining, second, third, fourth}
use Rattle.orders.specs.OrderLaws.{Fit}
use Rattle.decide.specs.Decide.{Verdict, refuse, enter, alter, leave, renew, enroll, pass}
use Rattle.slots.specs.Stored.{entered, kept, placed, put_order, stored}
use Rattle.enroll.specs.Enrolled.{enrolled}
use Rattle.steps.specs.Asked.{Asked}
use Rattle.moves.specs.Moves.{Numbers}
use Rattle.moves.specs.Facts.{Facts}
use Rattle.moves.specs.Altered.{altered_reference, altered_fit}
use Rattle.kinds.specs.declared.Slot.{Slot}

-- ---- lengths

put_order_length : (b : List ℕ) (k s : ℕ) (o : Order) → length (put_order b k s o) ≡ length b
unfolding put_order
put_order_length b k s o = put-length b k s o.reference.0 (second o) (third o) (fourth o)

entered-length : (b : List ℕ) (k : ℕ) (o : Order) → length (entered b k o) ≡ length b
unfolding entered
entered-length b k o = go (lowest_free b k)
  where
    go : (f : Option Slot) → length (placed b k o f) ≡ length b
    go (Some s) = put_order_length b k s.0 o
    go None = refl

kept-length : (b : List ℕ) (k s : ℕ) (o : Order) → length (kept b k s o) ≡ length b
unfolding kept
kept-length b k s o = go (eqb (remaining o) 0)
  where
    go : (t : Bool) → length (cond t (clear_slot b k s) (put_order b k s o)) ≡ length b
    go true = clear_length b k s
    go false = put_order_length b k s o

-- no verdict changes the length of the book, nor that of the directory
pub stored-length : (b : List ℕ) (k s : ℕ) (v : Verdict) → length (stored b k s v) ≡ length b
stored-length b k s (refuse n) = refl
stored-length b k s (enter o) = entered-length b k o
stored-length b k s (alter o o' n) = kept-length b k s o'
stored-length b k s (leave o) = clear_length b k s
stored-length b k s (renew o o') = entered-length (clear_slot b k s) k o' ∙ clear_length b k s
stored-length b k s (enroll l symbol) = refl
stored-length b k s pass = refl

pub enrolled-length : (d : List ℕ) (v : Verdict) → length (enrolled d v) ≡ length d
enrolled-length d (refuse n) = refl
enrolled-length d (enter o) = refl
enrolled-length d (alter o o' n) = refl
enrolled-length d (leave o) = refl
enrolled-length d (renew o o') = refl
enrolled-length d (enroll l symbol) = registered-length d l symbol
enrolled-length d pass = refl

-- ---- numbers that fit 64 bits

abbrev pub Fits : ℕ → Type 0
Fits x = x < 18446744073709551616

-- the numbers of an order that fits a slot
module _ (o : Order) (f : Fit o) where
  second_fits : Fits (second o)
  unfolding second maximum
  second_fits = omega arith

  third_fits : Fits (third o)
  unfolding third
  third_fits = omega arith

  fourth_fits : Fits (fourth o)
  unfolding fourth
  fourth_fits = go o.side
    where
      go : (x : Side) → Fits (o.locate.0 * 281474976710656 + side_byte x * 1099511627776 + o.attribution * 256)
      go Buy = omega arith
      go Sell = omega arith

pub set-numbers : (b : List ℕ) (i x : ℕ) → Numbers b → Fits x → Numbers (set b i x)
set-numbers b i x n l j =
    ⊎_elim
    (λ (e : j ≡ i). ⊎_elim
    (λ h. rw (e, get_or-set_same b i x 0 h) l)
    (λ h. rw (set_out b i x h) (n j))
    (lt-or-le i (length b)))
    (λ d. rw (get_or-set_other b i j x 0 d) (n j))
    (same_or j i)

four-numbers : (b : List ℕ) (a n0 n1 n2 n3 : ℕ) → Numbers b → Fits n0 → Fits n1 → Fits n2 → Fits n3
    → Numbers (four b a n0 n1 n2 n3)
unfolding four
four-numbers b a n0 n1 n2 n3 n l0 l1 l2 l3 =
    set-numbers (set (set (set b a n0) (a + 1) n1) (a + 2) n2) (a + 3) n3
    (set-numbers (set (set b a n0) (a + 1) n1) (a + 2) n2 (set-numbers (set b a n0) (a + 1) n1 (set-numbers b a n0 n l0) l1) l2) l3

clear_bit-le : (x i : ℕ) → clear_bit x i ≤ x
unfolding clear_bit
clear_bit-le x i = omega arith

put-numbers : (b : List ℕ) (k s : ℕ) (o : Order) → Numbers b → Fit o → Fits o.reference.0
    → Numbers (put_order b k s o)
unfolding put_order put_slot
put-numbers b k s o n f r =
    let x = get_or b (s / 64) 0 in
    four-numbers (set b (s / 64) (set_bit x (s % 64))) (k + 4 * s) o.reference.0 (second o) (third o) (fourth o)
    (set-numbers b (s / 64) (set_bit x (s % 64)) n (set_bit-lt 64 x (s % 64) (omega arith) (n (s / 64))))
    r (second_fits o f) (third_fits o f) (fourth_fits o f)

clear_numbers : (b : List ℕ) (k s : ℕ) → Numbers b → Numbers (clear_slot b k s)
unfolding clear_slot
clear_numbers b k s n =
    let x = get_or b (s / 64) 0 in
    four-numbers (set b (s / 64) (clear_bit x (s % 64))) (k + 4 * s) 0 0 0 0
    (set-numbers b (s / 64) (clear_bit x (s % 64)) n (omega (arith, clear_bit-le x (s % 64), n (s / 64))))
    (omega arith) (omega arith) (omega arith) (omega arith)

entered-numbers : (b : List ℕ) (k : ℕ) (o : Order) → Numbers b → Fit o → Fits o.reference.0
    → Numbers (entered b k o)
unfolding entered
entered-numbers b k o n f r = go (lowest_free b k)
  where
    go : (g : Option Slot) → Numbers (placed b k o g)
    go (Some s) = put-numbers b k s.0 o n f r
    go None = n

kept-numbers : (b : List ℕ) (k s : ℕ) (o : Order) → Numbers b → (remaining o ≢ 0 → Fit o)
    → Fits o.reference.0 → Numbers (kept b k s o)
unfolding kept
kept-numbers b k s o n f r = go (eqb (remaining o) 0) refl
  where
    go : (t : Bool) → eqb (remaining o) 0 ≡ t → Numbers (cond t (clear_slot b k s) (put_order b k s o))
    go true e = clear_numbers b k s n
    go false e = put-numbers b k s o n (f (eqb-false (remaining o) 0 e)) r

-- ---- for a verdict with its facts

module _ (d b : List ℕ) (k : ℕ) (a : Asked) where
  pub stored-numbers : (s : ℕ) (v : Verdict) → Facts d b k a v → Numbers b → Numbers (stored b k s v)
  stored-numbers s (refuse c) f n = n
  stored-numbers s (enter o) f n = entered-numbers b k o n f.fit f.starts.reference
  stored-numbers s (alter o o' c) f n =
      kept-numbers b k s o' n (altered_fit f) (omega (arith, altered_reference f, f.rests.fits))
  stored-numbers s (leave o) f n = clear_numbers b k s n
  stored-numbers s (renew o o') f n =
      entered-numbers (clear_slot b k s) k o' (clear_numbers b k s n) f.fit
      (omega (arith, ap (λ (x : Order). x.reference.0) f.after, f.fits))
  stored-numbers s (enroll l symbol) f n = n
  stored-numbers s pass f n = n

  pub enrolled-numbers : (v : Verdict) → Facts d b k a v → Numbers d → Numbers (enrolled d v)
  enrolled-numbers (refuse c) f n = n
  enrolled-numbers (enter o) f n = n
  enrolled-numbers (alter o o' c) f n = n
  enrolled-numbers (leave o) f n = n
  enrolled-numbers (renew o o') f n = n
  enrolled-numbers (enroll l symbol) f n = registered_below d l symbol _ n f.symbolic.fits
  enrolled-numbers pass f n = n
