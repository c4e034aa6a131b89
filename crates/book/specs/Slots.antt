-- What every change of one slot does: one record, `Changed`, which a slot put and a slot cleared both meet. The laws above
-- the book go by this record alone. Assumes nothing.
use Rattle.std.specs.Prelude.{◌≡◌, refl, List, ◌≢◌, ◌⊎◌, ℕ, ◌+◌, ◌*◌, ◌/◌, ◌%◌, ◌≤◌, ◌<◌, length, get_or, set, Option, Some, None}
use Rattle.std.proofs.Common.{sym, ap, ◌∙◌, ⊎_elim, inl, inr, add-zero, arith, length-set, get_or-set_same, get_or-set_other}
use Rattle.laws.specs.Bit.{set_bit-same, set_bit_other, clear_bit-same, clear_bit_other}
use Rattle.laws.specs.Bools.{true_not_false}
use Rattle.laws.specs.Least.{same_or, lt-or-le}
use Rattle.laws.specs.Definitions.{bit, set_bit, clear_bit}
use Rattle.kinds.specs.declared.Slot.{Slot}
use Rattle.book.specs.Book.{live, number_at, is_free, lowest_free, four, put_slot, clear_slot}
use Rattle.book.specs.Finds.{free_yes, full}
use Rattle.book.specs.Shape.{Sized}

-- ---- four numbers stored from place a on

pub four-length : (b : List ℕ) (a n0 n1 n2 n3 : ℕ) → length (four b a n0 n1 n2 n3) ≡ length b
unfolding four
four-length b a n0 n1 n2 n3 = simp length-set

pub four_out : (b : List ℕ) (a n0 n1 n2 n3 i : ℕ) → (i < a) ⊎ (a + 4 ≤ i) → get_or (four b a n0 n1 n2 n3) i 0 ≡ get_or b i 0
unfolding four
four_out b a n0 n1 n2 n3 i o =
    let ne : (x : ℕ) → x < 4 → i ≢ a + x = λ x l q. ⊎_elim (λ h. omega arith) (λ h. omega arith) o in
    let ne0 : i ≢ a = λ q. ⊎_elim (λ h. omega arith) (λ h. omega arith) o in
    get_or-set_other (set (set (set b a n0) (a + 1) n1) (a + 2) n2) (a + 3) i n3 0 (ne 3 (omega arith))
    ∙ get_or-set_other (set (set b a n0) (a + 1) n1) (a + 2) i n2 0 (ne 2 (omega arith))
    ∙ get_or-set_other (set b a n0) (a + 1) i n1 0 (ne 1 (omega arith))
    ∙ get_or-set_other b a i n0 0 ne0

pub four_0 : (b : List ℕ) (a n0 n1 n2 n3 : ℕ) → a + 3 < length b → get_or (four b a n0 n1 n2 n3) (a + 0) 0 ≡ n0
unfolding four
four_0 b a n0 n1 n2 n3 l =
    rw add-zero
    (get_or-set_other (set (set (set b a n0) (a + 1) n1) (a + 2) n2) (a + 3) a n3 0 (λ q. omega arith)
    ∙ get_or-set_other (set (set b a n0) (a + 1) n1) (a + 2) a n2 0 (λ q. omega arith)
    ∙ get_or-set_other (set b a n0) (a + 1) a n1 0 (λ q. omega arith)
    ∙ get_or-set_same b a n0 0 (omega arith))

pub four_1 : (b : List ℕ) (a n0 n1 n2 n3 : ℕ) → a + 3 < length b → get_or (four b a n0 n1 n2 n3) (a + 1) 0 ≡ n1
unfolding four
four_1 b a n0 n1 n2 n3 l =
    get_or-set_other (set (set (set b a n0) (a + 1) n1) (a + 2) n2) (a + 3) (a + 1) n3 0 (λ q. omega arith)
    ∙ get_or-set_other (set (set b a n0) (a + 1) n1) (a + 2) (a + 1) n2 0 (λ q. omega arith)
    ∙ get_or-set_same (set b a n0) (a + 1) n1 0 (simp length-set (omega arith))

pub four_2 : (b : List ℕ) (a n0 n1 n2 n3 : ℕ) → a + 3 < length b → get_or (four b a n0 n1 n2 n3) (a + 2) 0 ≡ n2
unfolding four
four_2 b a n0 n1 n2 n3 l =
    get_or-set_other (set (set (set b a n0) (a + 1) n1) (a + 2) n2) (a + 3) (a + 2) n3 0 (λ q. omega arith)
    ∙ get_or-set_same (set (set b a n0) (a + 1) n1) (a + 2) n2 0 (simp length-set (omega arith))

pub four_3 : (b : List ℕ) (a n0 n1 n2 n3 : ℕ) → a + 3 < length b → get_or (four b a n0 n1 n2 n3) (a + 3) 0 ≡ n3
unfolding four
four_3 b a n0 n1 n2 n3 l =
    get_or-set_same (set (set (set b a n0) (a + 1) n1) (a + 2) n2) (a + 3) n3 0 (simp length-set (omega arith))

-- ---- one slot changed

-- book b, of k map numbers, became c: slot s has bit v and four numbers, and every other slot is as it was
pub record Changed (k s v n0 n1 n2 n3 : ℕ) (b c : List ℕ) : Type 0 where
  pub size : length c ≡ length b
  pub bit_at : live c s ≡ v
  pub bit_off : (t : ℕ) → t < 64 * k → t ≢ s → live c t ≡ live b t
  pub num_0 : number_at c k s 0 ≡ n0
  pub num_1 : number_at c k s 1 ≡ n1
  pub num_2 : number_at c k s 2 ≡ n2
  pub num_3 : number_at c k s 3 ≡ n3
  pub num_off : (t i : ℕ) → t ≢ s → i < 4 → number_at c k t i ≡ number_at b k t i

lt-ne : (t s : ℕ) → t ≢ s → (t < s) ⊎ (s < t)
lt-ne t s n = ⊎_elim (λ h. inl h) (λ h. inr (omega arith)) (lt-or-le t s)

-- the map number w in place of slot s's, with bit v at s and the other bits as they were
pub changed : (b : List ℕ) (k s w v n0 n1 n2 n3 : ℕ) → length b ≡ 257 * k → s < 64 * k
    → bit w (s % 64) ≡ v → ((i : ℕ) → i ≢ s % 64 → bit w i ≡ bit (get_or b (s / 64) 0) i)
    → Changed k s v n0 n1 n2 n3 b (four (set b (s / 64) w) (k + 4 * s) n0 n1 n2 n3)
unfolding live number_at
changed b k s w v n0 n1 n2 n3 sized below at off =
    let a = k + 4 * s in
    let b1 = set b (s / 64) w in
    let long : a + 3 < length b1 = rw length-set (omega arith) in
    let word : get_or (four b1 a n0 n1 n2 n3) (s / 64) 0 ≡ w =
    four_out b1 a n0 n1 n2 n3 (s / 64) (inl (omega arith)) ∙ get_or-set_same b (s / 64) w 0 (omega arith) in
    record {
      size = four-length b1 a n0 n1 n2 n3 ∙ length-set b (s / 64) w;
      bit_at = ap (λ (x : ℕ). bit x (s % 64)) word ∙ at;
      bit_off = λ t l n. ⊎_elim
          (λ q. ap (λ (j : ℕ). bit (get_or (four b1 a n0 n1 n2 n3) j 0) (t % 64)) q ∙ ap (λ (x : ℕ). bit x (t % 64)) word
          ∙ off (t % 64) (λ m. n (omega arith)) ∙ ap (λ (j : ℕ). bit (get_or b j 0) (t % 64)) (sym q))
          (λ q. ap (λ (x : ℕ). bit x (t % 64))
          (four_out b1 a n0 n1 n2 n3 (t / 64) (inl (omega arith)) ∙ get_or-set_other b (s / 64) (t / 64) w 0 q))
          (same_or (t / 64) (s / 64));
      num_0 = four_0 b1 a n0 n1 n2 n3 long;
      num_1 = four_1 b1 a n0 n1 n2 n3 long;
      num_2 = four_2 b1 a n0 n1 n2 n3 long;
      num_3 = four_3 b1 a n0 n1 n2 n3 long;
      num_off = λ t i n l.
          four_out b1 a n0 n1 n2 n3 (k + 4 * t + i) (⊎_elim (λ h. inl (omega arith)) (λ h. inr (omega arith)) (lt-ne t s n))
          ∙ get_or-set_other b (s / 64) (k + 4 * t + i) w 0 (λ q. omega arith);
    }

pub put_changed : (b : List ℕ) (k s n0 n1 n2 n3 : ℕ) → length b ≡ 257 * k → s < 64 * k
    → Changed k s 1 n0 n1 n2 n3 b (put_slot b k s n0 n1 n2 n3)
unfolding put_slot
put_changed b k s n0 n1 n2 n3 z l =
    changed b k s (set_bit (get_or b (s / 64) 0) (s % 64)) 1 n0 n1 n2 n3 z l (set_bit-same (get_or b (s / 64) 0) (s % 64))
    (λ i n. set_bit_other (get_or b (s / 64) 0) (s % 64) i n)

pub clear_changed : (b : List ℕ) (k s : ℕ) → length b ≡ 257 * k → s < 64 * k → Changed k s 0 0 0 0 0 b (clear_slot b k s)
unfolding clear_slot
clear_changed b k s z l =
    changed b k s (clear_bit (get_or b (s / 64) 0) (s % 64)) 0 0 0 0 0 z l (clear_bit-same (get_or b (s / 64) 0) (s % 64))
    (λ i n. clear_bit_other (get_or b (s / 64) 0) (s % 64) i n)

-- ---- the length stays, whatever the slot

pub put-length : (b : List ℕ) (k s n0 n1 n2 n3 : ℕ) → length (put_slot b k s n0 n1 n2 n3) ≡ length b
unfolding put_slot
put-length b k s n0 n1 n2 n3 = rw four-length (simp length-set)

pub clear_length : (b : List ℕ) (k s : ℕ) → length (clear_slot b k s) ≡ length b
unfolding clear_slot
clear_length b k s = rw four-length (simp length-set)

pub clear_sized : (b : List ℕ) (k s : ℕ) → Sized b k → Sized (clear_slot b k s) k
clear_sized b k s z = record { size = clear_length b k s ∙ z.size; most = z.most }

-- ---- what a search then finds

-- a slot that is cleared is free, so one is found
pub cleared_room : (b : List ℕ) (k s : ℕ) → Sized b k → s < 64 * k → (t : Slot) × (lowest_free (clear_slot b k s) k ≡ Some t)
cleared_room b k s z l = go (lowest_free (clear_slot b k s) k) refl
  where
    go : (f : Option Slot) → lowest_free (clear_slot b k s) k ≡ f → (t : Slot) × (f ≡ Some t)
    go (Some t) e = (t, refl)
    go None e =
        let c = clear_slot b k s in
        absurd (true_not_false (is_free c s) (free_yes c s (clear_changed b k s z.size l).bit_at) (full c k e s l))
