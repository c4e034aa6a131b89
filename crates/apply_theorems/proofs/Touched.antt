-- What a call touches that was read: only the slots and the entry that its message is about; so every other live order stays as it
-- was. Assumes nothing.
use Rattle.refusals.specs.declared.Refusal.TheVariants.{Book, Conflict, NoOrder}
use Rattle.std.specs.Prelude.{◌≡◌, ◌≢◌, Bool, not, cond, List, ℕ, ◌*◌, ◌<◌, eqb, leb, length, Option, Some, None, Ok}
use Rattle.std.proofs.Math.Path.{refl}
use Rattle.std.proofs.Common.{sym, subst, ◌∙◌, inl, inr, arith}
use Rattle.std.proofs.Math.Bool.{true, false}
use Rattle.messages.specs.declared.Message.{Message}
use Rattle.kinds.specs.declared.Slot.{Slot}
use Rattle.directory.specs.DirectoryLaws.{registered-length, registered_other, registered_unused, entry_means}
use Rattle.book.specs.Book.{live, number_at, find, lowest_free, clear_slot, words_of}
use Rattle.book.specs.Finds.{free_slot}
use Rattle.book.specs.Slots.{Changed, put_changed, clear_changed}
use Rattle.directory.specs.Directory.{entry_at, is_symbol}
use Rattle.orders.specs.declared.Order.{Order}
use Rattle.orders.specs.Order.{remaining, second, third, fourth}
use Rattle.slots.specs.Stored.{entered, is_at, kept, placed, put_order, slot_of, stored}
use Rattle.enroll.specs.Enrolled.{enrolled}
use Rattle.reader.specs.Read.{answer}
use Rattle.refusals.specs.declared.Refusal.{Refusal}
use Rattle.decide.specs.Decide.{Verdict, refuse, enroll, pass, gate}
use Rattle.decide.specs.Decide.{Seen, unseen, something, is_registered, registering, taking, closing, replacing, renewed}
use Rattle.take.specs.Taken.{taken_by}
use Rattle.steps.specs.Asked.{Asked, register, start, take, close, replace, nothing, asked}
use Rattle.steps.specs.Steps.{verdict_on, slot_sought}
use Rattle.apply.specs.Apply.{After, applied}
use Rattle.apply.specs.ApplyLaws.{judgement}
use Rattle.apply_theorems.specs.Statements.{Shaped, Lowest, SameSlot, Own, Only, Names}
use Rattle.apply_theorems.specs.Means.{shaped_words, shaped_good, good_shaped}
use Rattle.apply_theorems.specs.Sights.{Sight, sight}
use Rattle.apply_theorems.specs.Sights.Sight.{found_nothing, found_unsound, found_order}

-- ---- every slot but its own

-- the book b became c, and every slot that is not one of own's is as it was
record Besides (k : ℕ) (own : ℕ → Type 0) (b c : List ℕ) : Type 0 where
  size : length c ≡ length b
  slots : (t : ℕ) → t < 64 * k → (own t → ⊥) → SameSlot b c k t

module _ {k : ℕ} {own : ℕ → Type 0} where
  unmoved : (b : List ℕ) → Besides k own b b
  unmoved b = record { size = refl; slots = λ t l n. record { bit = refl; numbers = λ i h. refl } }

  one_slot : {s v n0 n1 n2 n3 : ℕ} {b c : List ℕ} → own s → Changed k s v n0 n1 n2 n3 b c → Besides k own b c
  one_slot {s} o g =
      record {
        size = g.size;
        slots = λ t l n.
            let d : t ≢ s = λ e. n (subst own (sym e) o) in
            record { bit = g.bit_off t l d; numbers = λ i h. g.num_off t i d h };
      }

  both : {b c e : List ℕ} → Besides k own b c → Besides k own c e → Besides k own b e
  both x y =
      record {
        size = y.size ∙ x.size;
        slots = λ t l n.
            let p = x.slots t l n in
            let q = y.slots t l n in
            record { bit = q.bit ∙ p.bit; numbers = λ i h. q.numbers i h ∙ p.numbers i h };
      }

  puts : (b : List ℕ) (s : ℕ) (o : Order) → length b ≡ 257 * k → s < 64 * k → own s → Besides k own b (put_order b k s o)
  unfolding put_order
  puts b s o z l w = one_slot w (put_changed b k s o.reference.0 (second o) (third o) (fourth o) z l)

  clears : (b : List ℕ) (s : ℕ) → length b ≡ 257 * k → s < 64 * k → own s → Besides k own b (clear_slot b k s)
  clears b s z l w = one_slot w (clear_changed b k s z l)

  keeps : (b : List ℕ) (s : ℕ) (o : Order) → length b ≡ 257 * k → s < 64 * k → own s → Besides k own b (kept b k s o)
  unfolding kept
  keeps b s o z l w = go (eqb (remaining o) 0)
    where
      go : (t : Bool) → Besides k own b (cond t (clear_slot b k s) (put_order b k s o))
      go true = clears b s z l w
      go false = puts b s o z l w

  enters : (b : List ℕ) (o : Order) → length b ≡ 257 * k → ((s : Slot) → lowest_free b k ≡ Some s → own s.0)
      → Besides k own b (entered b k o)
  unfolding entered
  enters b o z w = go (lowest_free b k) refl
    where
      go : (f : Option Slot) → lowest_free b k ≡ f → Besides k own b (placed b k o f)
      go None e = unmoved b
      go (Some s) e = puts b s.0 o z (free_slot b k s e).0 (w s e)

-- ---- what a verdict leaves

-- a verdict about the order in slot s leaves all but what a is about
record Fine (d b : List ℕ) (k : ℕ) (a : Asked) (s : ℕ) (v : Verdict) : Type 0 where
  only : Only d b k a (enrolled d v) (stored b k s v)

module _ {d b : List ℕ} {k : ℕ} {a : Asked} where
  booked : {c : List ℕ} → Besides k (Own b k a) b c → Only d b k a d c
  booked x =
      record { directory_length = refl; book_length = x.size; unused = refl; entries = λ m n. refl; slots = x.slots }

  idle : {s : ℕ} {r : Refusal} → Fine d b k a s (refuse r)
  idle = record { only = booked (unmoved b) }

  through : {s : ℕ} {v : Verdict} (t : Bool) (c : Refusal) → Fine d b k a s v → Fine d b k a s (gate t c v)
  through true c f = f
  through false c f = idle

  -- of what is seen under a reference only a sound order comes to anything
  named : {r s : ℕ} {z : Seen} (f : Seen → Verdict) → f unseen ≡ refuse NoOrder → f (something None) ≡ refuse Book
      → Sight b k r s z → ((o : Order) → Lowest b k r s → Fine d b k a s (f (something (Some o)))) → Fine d b k a s (f z)
  named f p q (found_nothing n) next = subst (Fine d b k a 0) (sym p) idle
  named f p q (found_unsound s w e) next = subst (Fine d b k a s) (sym q) idle
  named f p q (found_order s o w e) next = next o w

-- R enters a symbol at its locate, or nothing
registers : (d b : List ℕ) (k l symbol : ℕ) (e : Option ℕ) → entry_at d l ≡ e → Fine d b k (register l symbol) 0 (registering e l symbol)
registers d b k l symbol None p = idle
registers d b k l symbol (Some n) p = go (eqb n 0)
  where
    go : (t : Bool) → Fine d b k (register l symbol) 0 (cond t (enroll l symbol) (gate (eqb n symbol) Conflict pass))
    go true =
        record {
          only = record {
            directory_length = registered-length d l symbol;
            book_length = refl;
            unused = registered_unused d l symbol ((entry_means d l n).0 p).from;
            entries = λ m n. registered_other d l symbol m n;
            slots = (unmoved b).slots;
          };
        }
    go false = through (eqb n symbol) _ (record { only = booked (unmoved b) })

-- what is asked, verdict_on, leaves all else
fine : (d b : List ℕ) (k : ℕ) (a : Asked) → length b ≡ 257 * k → Fine d b k a (slot_sought b k a) (verdict_on d b k a)
fine d b k (register l symbol) z = registers d b k l symbol (entry_at d l) refl
fine d b k (start o symbol) z =
    let e = entry_at d o.locate.0 in
    through (is_registered e) _
    (through (is_symbol symbol e) _
    (through (not (is_at (find b k o.reference.0))) _
    (through (is_at (lowest_free b k)) _
    (record { only = booked (enters b o z (λ s e. e)) }))))
fine d b k (take how r l n) z =
    named (taking (taken_by how) l n) refl refl (sight b k r) λ o w.
    through (eqb o.locate.0 l) _
    (through (leb n (remaining o)) _
    (record { only = booked (keeps b (slot_of (find b k r)) (taken_by how o n) z w.inside w) }))
fine d b k (close r l) z =
    named (closing l) refl refl (sight b k r) λ o w.
    through (eqb o.locate.0 l) _
    (record { only = booked (clears b (slot_of (find b k r)) z w.inside w) })
fine d b k (replace original new l n p) z =
    let s = slot_of (find b k original) in
    named (replacing l original new n p (is_at (find b k new))) refl refl (sight b k original) λ o w.
    let c = clears b s z w.inside (inl w) in
    through (eqb o.locate.0 l) _
    (through (not (eqb new original)) _
    (through (not (is_at (find b k new))) _
    (record { only = booked (both c (enters (clear_slot b k s) (renewed o new n p) (c.size ∙ z) (λ t e. inr (s, w, e)))) })))
fine d b k nothing z = record { only = booked (unmoved b) }

-- what was read touches only what its message is about, refused or not
pub only_own : (d b s : List ℕ) (k : ℕ) (m : Message) → Shaped d b k → answer s ≡ Ok m
    → Only d b k (asked m) (applied d b s).directory (applied d b s).book
only_own d b s k m z e =
    let j = words_of (length b) in
    let f = fine d b j (asked m) (good_shaped d b (shaped_good z)).book.size in
    let at_words = subst (λ (x : After). Only d b j (asked m) x.directory x.book) (sym (judgement d b s (shaped_good z) e)) f.only in
    subst (λ (i : ℕ). Only d b i (asked m) (applied d b s).directory (applied d b s).book) (shaped_words z) at_words

-- ---- other live orders

-- a live slot whose reference the message does not name is not one that the message is about
unnamed : {d b : List ℕ} {k t : ℕ} → Shaped d b k → (a : Asked)
    → t < 64 * k → live b t ≡ 1 → (Names a (number_at b k t 0) → ⊥) → Own b k a t → ⊥
unnamed z (register l symbol) i e n w = w
unnamed {b = b} {k} {t} z (start o symbol) i e n w = let q = free_slot b k (record { 0 = t }) w in omega (arith, q.1)
unnamed z (take how r l c) i e n w = n w.holding
unnamed z (close r l) i e n w = n w.holding
unnamed z (replace original new l c p) i e n (inl w) = n (inl w.holding)
unnamed {b = b} {k} {t} z (replace original new l c p) i e n (inr w) =
    let o = w.1 in
    let g = clear_changed b k w.0 z.book.size o.inside in
    let differs : t ≢ w.0 = λ q. n (inl (rw q o.holding)) in
    let free = (free_slot (clear_slot b k w.0) k (record { 0 = t }) w.2).1 in
    omega (arith, e, free, g.bit_off t i differs)
unnamed z nothing i e n w = w

-- every live order that a message does not name stays as it was
pub others_stay : (d b s : List ℕ) (k : ℕ) (m : Message) → Shaped d b k → answer s ≡ Ok m
    → (t : ℕ) → t < 64 * k → live b t ≡ 1 → (Names (asked m) (number_at b k t 0) → ⊥) → SameSlot b (applied d b s).book k t
others_stay d b s k m z e t l a n = (only_own d b s k m z e).slots t l (unnamed z (asked m) l a n)
