-- The book's part of health, `Orderly`: one changed slot keeps it where the slot is cleared, or where it is put with an order whose
-- stock is registered and whose reference no other live slot holds. So every verdict with its facts keeps it. Assumes nothing.
use Rattle.std.specs.Prelude.{◌≡◌, ◌≢◌, Bool, cond, List, ℕ, zero, suc, ◌*◌, ◌<◌, Some, None}
use Rattle.std.proofs.Math.Path.{refl, sym}
use Rattle.std.proofs.Common.{ap, subst, ◌∙◌, ⊎_elim, arith}
use Rattle.std.proofs.Math.Bool.{true, false}
use Rattle.std.proofs.lemmas.Bool.{eqb-false}
use Rattle.std.proofs.Math.Dec.{eqb}
use Rattle.laws.specs.Bools.{true_not_false}
use Rattle.laws.specs.Least.{same_or}
use Rattle.kinds.specs.declared.Slot.{Slot}
use Rattle.book.specs.Book.{live, number_at, holds, find, lowest_free, clear_slot}
use Rattle.book.specs.Finds.{holds_yes, found_slot, nowhere, free_slot}
use Rattle.book.specs.Shape.{Sized}
use Rattle.book.specs.Slots.{Changed, clear_changed, clear_sized}
use Rattle.directory.specs.Directory.{entry_at, registered, unused_of}
use Rattle.directory.specs.DirectoryLaws.{registered_other, registered-same, registered_unused}
use Rattle.orders.specs.declared.Order.{Order}
use Rattle.orders.specs.Order.{remaining}
use Rattle.orders.specs.OrderLaws.{Fit}
use Rattle.decide.specs.Decide.{Verdict, refuse, enter, alter, leave, renew, enroll, pass}
use Rattle.slots.specs.Stored.{entered, held_at, kept, put_order, slot_of, stored}
use Rattle.enroll.specs.Enrolled.{enrolled}
use Rattle.steps.specs.Asked.{Asked}
use Rattle.steps.specs.Steps.{slot_sought}
use Rattle.moves.specs.Facts.{Rests, Facts}
use Rattle.moves.specs.Altered.{altered_reference, altered_locate, altered_fit}
use Rattle.moves.specs.TotalMoves.{held_off, put_slot_lem, put-held}
use Rattle.runs.specs.Statements.{Zero, Listed}

pub record Orderly (d b : List ℕ) (k : ℕ) : Type 0 where
  pub sound : (s : ℕ) → s < 64 * k → live b s ≡ 1 → (o : Order) × (held_at b k s ≡ Some o) × Listed d o.locate.0
  pub apart : (s u : ℕ) → s < 64 * k → u < 64 * k → live b s ≡ 1 → live b u ≡ 1 → number_at b k s 0 ≡ number_at b k u 0 → s ≡ u
  pub free : (s : ℕ) → s < 64 * k → live b s ≡ 0 → Zero b k s

-- no live slot but s holds the reference r
abbrev Alone : List ℕ → ℕ → ℕ → ℕ → Type 0
Alone b k s r = (t : ℕ) → t < 64 * k → t ≢ s → live b t ≡ 1 → number_at b k t 0 ≢ r

-- no live slot does
abbrev Unheld : List ℕ → ℕ → ℕ → Type 0
Unheld b k r = (t : ℕ) → t < 64 * k → live b t ≡ 1 → number_at b k t 0 ≢ r

-- ---- one slot changed

below_four : (P : ℕ → Type 0) → P 0 → P 1 → P 2 → P 3 → (i : ℕ) → i < 4 → P i
below_four P p q r s zero l = p
below_four P p q r s (suc zero) l = q
below_four P p q r s (suc (suc zero)) l = r
below_four P p q r s (suc (suc (suc zero))) l = s
below_four P p q r s (suc (suc (suc (suc i)))) l = absurd (omega arith)

module _ {d b c : List ℕ} {k s v n0 n1 n2 n3 : ℕ} (h : Orderly d b k) (g : Changed k s v n0 n1 n2 n3 b c) where
  -- a live slot then holds a sound order of its own, a free one zeros
  one_slot : (v ≡ 1 → (o : Order) × (held_at c k s ≡ Some o) × Listed d o.locate.0) → (v ≡ 1 → Alone b k s n0)
      → (v ≡ 0 → Zero c k s) → Orderly d c k
  one_slot holding alone none = record { sound = sounds; apart = aparts; free = frees }
    where
      sounds : (t : ℕ) → t < 64 * k → live c t ≡ 1 → (o : Order) × (held_at c k t ≡ Some o) × Listed d o.locate.0
      sounds t l e =
          ⊎_elim
          (λ (q : t ≡ s). rw q (holding (sym g.bit_at ∙ rw q at e)))
          (λ q. rw (held_off g t q) (h.sound t l (sym (g.bit_off t l q) ∙ e)))
          (same_or t s)

      -- slot s and another
      differ : (t : ℕ) → t < 64 * k → t ≢ s → live c t ≡ 1 → live c s ≡ 1 → number_at c k t 0 ≢ number_at c k s 0
      differ t l q e f m =
          alone (sym g.bit_at ∙ f) t l q (sym (g.bit_off t l q) ∙ e) (sym (g.num_off t 0 q (omega arith)) ∙ m ∙ g.num_0)

      aparts : (t u : ℕ) → t < 64 * k → u < 64 * k → live c t ≡ 1 → live c u ≡ 1 → number_at c k t 0 ≡ number_at c k u 0 → t ≡ u
      aparts t u l m e f w =
          ⊎_elim
          (λ (p : t ≡ s). ⊎_elim
          (λ (q : u ≡ s). p ∙ sym q)
          (λ q. absurd (differ u m q f (rw p at e) (sym w ∙ ap (λ (x : ℕ). number_at c k x 0) p)))
          (same_or u s))
          (λ p. ⊎_elim
          (λ (q : u ≡ s). absurd (differ t l p e (rw q at f) (w ∙ ap (λ (x : ℕ). number_at c k x 0) q)))
          (λ q. h.apart t u l m (sym (g.bit_off t l p) ∙ e) (sym (g.bit_off u m q) ∙ f)
          (sym (g.num_off t 0 p (omega arith)) ∙ w ∙ g.num_off u 0 q (omega arith)))
          (same_or u s))
          (same_or t s)

      frees : (t : ℕ) → t < 64 * k → live c t ≡ 0 → Zero c k t
      frees t l e =
          ⊎_elim
          (λ (q : t ≡ s). rw q (none (sym g.bit_at ∙ rw q at e)))
          (λ q i m. g.num_off t i q m ∙ h.free t l (sym (g.bit_off t l q) ∙ e) i m)
          (same_or t s)

-- ---- a slot cleared, a slot put

module _ {d b : List ℕ} {k s : ℕ} (z : Sized b k) (l : s < 64 * k) where
  cleared_orderly : Orderly d b k → Orderly d (clear_slot b k s) k
  cleared_orderly h =
      let g = clear_changed b k s z.size l in
      one_slot h g (λ e. absurd (omega arith)) (λ e. absurd (omega arith)) λ e.
      below_four (λ (i : ℕ). number_at (clear_slot b k s) k s i ≡ 0) g.num_0 g.num_1 g.num_2 g.num_3

  put_orderly : (o : Order) → Orderly d b k → Fit o → Listed d o.locate.0 → Alone b k s o.reference.0
      → Orderly d (put_order b k s o) k
  put_orderly o h f y a =
      one_slot h (put_slot_lem b k s z l o) (λ e. (o, put-held b k s z l o f, y)) (λ e. a) (λ e. absurd (omega arith))

  -- a live slot keeps its reference, or is cleared
  kept_orderly : (o : Order) → Orderly d b k → live b s ≡ 1 → number_at b k s 0 ≡ o.reference.0 → (remaining o ≢ 0 → Fit o)
      → Listed d o.locate.0 → Orderly d (kept b k s o) k
  unfolding kept
  kept_orderly o h e n f y = go (eqb (remaining o) 0) refl
    where
      go : (t : Bool) → eqb (remaining o) 0 ≡ t → Orderly d (cond t (clear_slot b k s) (put_order b k s o)) k
      go true p = cleared_orderly h
      go false p =
          put_orderly o h (f (eqb-false (remaining o) 0 p)) y λ t m q i w. q (h.apart t s m l i e (w ∙ sym n))

-- a reference that is not found is held by no live slot
unheld : (b : List ℕ) (k r : ℕ) → find b k r ≡ None → Unheld b k r
unheld b k r e t l a n = true_not_false (holds b k r t) (holds_yes b k r t a n) (nowhere b k r e t l)

-- and one that no live slot holds is held by none once a slot is cleared
cleared_unheld : (b : List ℕ) (k s r : ℕ) → Sized b k → s < 64 * k → Unheld b k r → Unheld (clear_slot b k s) k r
cleared_unheld b k s r z l u t m e =
    let g = clear_changed b k s z.size l in
    ⊎_elim
    (λ (q : t ≡ s). absurd (omega (arith, g.bit_at, rw q at e)))
    (λ q w. u t m (sym (g.bit_off t m q) ∙ e) (sym (g.num_off t 0 q (omega arith)) ∙ w))
    (same_or t s)

-- an order that enters
entered_orderly : {d b : List ℕ} {k : ℕ} (o : Order) (s : Slot) → Sized b k → Orderly d b k → Fit o → Listed d o.locate.0
    → Unheld b k o.reference.0 → lowest_free b k ≡ Some s → Orderly d (entered b k o) k
unfolding entered
entered_orderly {b = b} {k} o s z h f y u e = rw e (put_orderly z (free_slot b k s e).0 o h f y λ t m q. u t m)

-- ---- registered stocks

pub entry_listed : {d : List ℕ} {l n : ℕ} → entry_at d l ≡ Some n → n ≢ 0 → Listed d l
entry_listed {n = n} e some = record { symbol = n; entry = e; some = some }

-- the stock of an order that rests
rests_listed : {d b : List ℕ} {k r : ℕ} {o : Order} → Orderly d b k → Rests b k r o → Listed d o.locate.0
rests_listed {d} {o = o} h i =
    let p = h.sound i.slot.0 i.inside i.alive in
    let q : Some p.0 ≡ Some o = sym p.1 ∙ i.holding in
    let same : p.0 ≡ o = cc in
    subst (λ (x : Order). Listed d x.locate.0) same p.2

-- registering leaves a registered stock registered
registered-listed : (d : List ℕ) (l symbol m : ℕ) → symbol ≢ 0 → Listed d m → Listed (registered d l symbol) m
registered-listed d l symbol m some y = ⊎_elim
    (λ (e : m ≡ l). subst (Listed (registered d l symbol)) (sym e)
    (record { symbol = symbol; entry = registered-same d l y.symbol symbol (rw e at y.entry); some = some }))
    (λ n. record { symbol = y.symbol; entry = registered_other d l symbol m n ∙ y.entry; some = y.some })
    (same_or m l)

relisted_orderly : {d e b : List ℕ} {k : ℕ} → ((l : ℕ) → Listed d l → Listed e l) → Orderly d b k → Orderly e b k
relisted_orderly f h =
    record {
      sound = λ s l a. let p = h.sound s l a in (p.0, p.1, f p.0.locate.0 p.2);
      apart = h.apart;
      free = h.free;
    }

-- ---- a verdict with its facts

-- it is about the slot in which the order rests
named_slot : {b : List ℕ} {k r : ℕ} {o : Order} {d : List ℕ} (v : Verdict) (named : ℕ) → (i : Rests b k r o) → named ≡ slot_of (find b k r)
    → Orderly d (stored b k i.slot.0 v) k → Orderly d (stored b k named v) k
named_slot {b} {k} {d = d} v named i at h =
    subst (λ (x : ℕ). Orderly d (stored b k x v) k) (sym (at ∙ ap slot_of i.found)) h

module _ (d b : List ℕ) (k : ℕ) (a : Asked) (z : Sized b k) (h : Orderly d b k) where
  pub stored_orderly : (v : Verdict) → Facts d b k a v → Orderly (enrolled d v) (stored b k (slot_sought b k a) v) k
  stored_orderly (refuse n) f = h
  stored_orderly (enter o) f =
      entered_orderly o f.slot z h f.fit (entry_listed f.listed f.symbolic.some) (unheld b k o.reference.0 f.unknown)
      f.free
  stored_orderly (alter o o' n) f =
      let i = f.rests in
      let e = (found_slot b k f.reference i.slot i.found).2 in
      named_slot (alter o o' n) (slot_sought b k a) i (ap (slot_sought b k) f.asks)
      (kept_orderly z i.inside o' h i.alive (e ∙ sym (altered_reference f)) (altered_fit f)
      (rw (altered_locate f) (rests_listed h i)))
  stored_orderly (leave o) f =
      named_slot (leave o) (slot_sought b k a) f.rests (ap (slot_sought b k) f.asks) (cleared_orderly z f.rests.inside h)
  stored_orderly (renew o o') f =
      let i = f.rests in
      let s = i.slot.0 in
      let r : o'.reference.0 ≡ f.new = ap (λ (x : Order). x.reference.0) f.after in
      let l : o'.locate.0 ≡ o.locate.0 = ap (λ (x : Order). x.locate.0) f.after in
      named_slot (renew o o') (slot_sought b k a) i (ap (slot_sought b k) f.asks)
      (entered_orderly o' f.slot (clear_sized b k s z) (cleared_orderly z i.inside h) f.fit (rw l (rests_listed h i))
      (cleared_unheld b k s o'.reference.0 z i.inside (rw r (unheld b k f.new f.unknown))) f.free)
  stored_orderly (enroll l symbol) f = relisted_orderly (λ m y. registered-listed d l symbol m f.symbolic.some y) h
  stored_orderly pass f = h

-- number 0 of the directory stays
module _ (d b : List ℕ) (k : ℕ) (a : Asked) where
  pub enrolled_nought : (v : Verdict) → Facts d b k a v → unused_of (enrolled d v) ≡ unused_of d
  enrolled_nought (refuse n) f = refl
  enrolled_nought (enter o) f = refl
  enrolled_nought (alter o o' n) f = refl
  enrolled_nought (leave o) f = refl
  enrolled_nought (renew o o') f = refl
  enrolled_nought (enroll l symbol) f = registered_unused d l symbol f.from
  enrolled_nought pass f = refl
