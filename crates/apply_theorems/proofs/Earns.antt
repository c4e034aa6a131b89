-- The number of a verdict is the one that 01 gives for what is asked (`earned`), check by check: each gate's test fails exactly
-- where the check's condition holds. Assumes nothing.
use Rattle.std.specs.Prelude.{◌≡◌, refl, ◌⊎◌, ◌≢◌, Bool, true, false, not, cond, List, ℕ, ◌<◌, eqb, leb, Option, Some, None}
use Rattle.std.proofs.Common.{ap, ◌∙◌, ⊎_elim, inl, inr, arith, eqb-true, leb-true, leb-false}
use Rattle.std.proofs.lemmas.Bool.{eqb-false}
use Rattle.refusals.specs.Refusals.{refusal_number}
use Rattle.refusals.specs.declared.Refusal.{Refusal}
use Rattle.refusals.specs.declared.Refusal.TheVariants as refusal
use Rattle.directory.specs.Directory.{entry_at}
use Rattle.book.specs.Book.{find, lowest_free}
use Rattle.orders.specs.declared.Order.{Order}
use Rattle.orders.specs.Order.{remaining}
use Rattle.decide.specs.Decide.{Verdict, enroll, pass, gate}
use Rattle.decide.specs.Decide.{registering, placing, taking, closing, replacing}
use Rattle.slots.specs.Stored.{is_at}
use Rattle.take.specs.Taken.{taken_by}
use Rattle.steps.specs.Asked.{Asked, register, start, take, close, replace, nothing as no_more}
use Rattle.steps.specs.Steps.{verdict_on}
use Rattle.apply_theorems.specs.Statements.{Outside, Unlisted, Another, IsLive, Full, IsOrder, Elsewhere, Over, first, done, Earned}
use Rattle.apply_theorems.specs.Sights.{lowest-live, Spot, spot, sight, order_unique, Room, room}
use Rattle.apply_theorems.specs.Sights.Spot.{nowhere_live, lowest_at}
use Rattle.apply_theorems.specs.Sights.Room.{no_room, some_room}
use Rattle.apply_theorems.specs.Earns.{Comes, Test, alike, differ, named_comes}
use Rattle.apply_theorems.specs.Earns.Test.{passes, fails}
use Rattle.kinds.specs.declared.Slot.{Slot}

agree : (m n : ℕ) → Test (m ≡ n) (not (eqb m n))
agree m n = go (eqb m n) refl
  where
    go : (t : Bool) → eqb m n ≡ t → Test (m ≡ n) (not t)
    go true e = fails (eqb-true m n e)
    go false e = passes (eqb-false m n e)

above : (m n : ℕ) → Test (n < m) (leb m n)
above m n = go (leb m n) refl
  where
    go : (t : Bool) → leb m n ≡ t → Test (n < m) t
    go true e = passes (λ l. omega (arith, leb-true m n e))
    go false e = fails (omega (arith, leb-false m n e))

is_live_lem : (b : List ℕ) (k r : ℕ) → Test (IsLive b k r) (not (is_at (find b k r)))
is_live_lem b k r = go (spot b k r)
  where
    go : {f : Option Slot} → Spot b k r f → Test (IsLive b k r) (not (is_at f))
    go (nowhere_live n) = passes n
    go (lowest_at s w) = fails (lowest-live w)

is_full : (b : List ℕ) (k : ℕ) → Test (Full b k) (is_at (lowest_free b k))
is_full b k = go (room b k)
  where
    go : {f : Option Slot} → Room b k f → Test (Full b k) (is_at f)
    go (no_room n) = fails n
    go (some_room s l e) = passes (λ n. n s.0 l e)

-- a gate is the first check, and what it lets through comes next
check : {P : Type 0} {t : Bool} {v : Verdict} {rest : ℕ → Type 0} (c : Refusal) → Test P t → ((P → ⊥) → Comes v rest)
    → Comes (gate t c v) (first P (refusal_number c) rest)
check c (passes n) k = record { number = inr (n, (k n).number) }
check c (fails p) k = record { number = inl (p, refl) }

-- two gates with one number are one check
check_two : {P Q : Type 0} {t u : Bool} {v : Verdict} {rest : ℕ → Type 0} (c : Refusal) → Test Q t → Test P u → Comes v rest
    → Comes (gate t c (gate u c v)) (first (P ⊎ Q) (refusal_number c) rest)
check_two c (fails q) p k = record { number = inl (inr q, refl) }
check_two c (passes n) (fails p) k = record { number = inl (inl p, refl) }
check_two c (passes n) (passes m) k = record { number = inr (⊎_elim m n, k.number) }

-- ---- what is asked

-- no symbol stands outside
within : (d : List ℕ) (l n : ℕ) → entry_at d l ≡ Some n → Outside d l → ⊥
within d l n p q = let z : ◌≡◌ {A = ℕ} 0 1 = cc in omega arith

-- another symbol than n, where n is not 0
another : (d : List ℕ) (l n symbol : ℕ) → entry_at d l ≡ Some n → n ≢ 0 → Test (Another d l symbol) (eqb n symbol)
another d l n symbol p more =
    alike
    (λ x. record { other = n; stands = p; some = more; differs = x })
    (λ a e. let same = a.stands in let q : a.other ≡ n = cc in a.differs (q ∙ e))
    (differ n symbol)

-- R: 7, 8
registers : (d : List ℕ) (l symbol : ℕ) (e : Option ℕ) → entry_at d l ≡ e
    → Comes (registering e l symbol) (first (Outside d l) 7 (first (Another d l symbol) 8 done))
registers d l symbol None p = record { number = inl (p, refl) }
registers d l symbol (Some n) p = record { number = inr (within d l n p, (go (eqb n 0) refl).number) }
  where
    go : (t : Bool) → eqb n 0 ≡ t
        → Comes (cond t (enroll l symbol) (gate (eqb n symbol) refusal.Conflict pass)) (first (Another d l symbol) 8 done)
    go true e = record { number = inr (λ a. let same = a.stands in let q : a.other ≡ n = cc in a.some (q ∙ eqb-true _ _ e), refl) }
    go false e = check refusal.Conflict (another d l n symbol p (eqb-false _ _ e)) λ _. record { number = refl }

-- A, F: 7, 8, 9, 12
places : (d b : List ℕ) (k l symbol : ℕ) (o : Order) (e : Option ℕ) → entry_at d l ≡ e
    → Comes (placing e symbol (is_at (find b k o.reference.0)) (is_at (lowest_free b k)) o)
    (first (Unlisted d l) 7 (first (Another d l symbol) 8 (first (IsLive b k o.reference.0) 9 (first (Full b k) 12 done))))
places d b k l symbol o None p = record { number = inl (inl p, refl) }
places d b k l symbol o (Some n) p =
    check refusal.Stock (alike (λ z. inr (p ∙ ap Some z)) (⊎_elim (λ x. absurd (within d l n p x)) (λ (e : entry_at d l ≡ Some 0). cc)) (agree n 0)) λ z.
    check refusal.Conflict (another d l n symbol p (λ q. z (inr (p ∙ ap Some q)))) λ _.
    check refusal.Duplicate (is_live_lem b k o.reference.0) λ _.
    check refusal.Full (is_full b k) λ _.
    record { number = refl }

-- 8: the order's locate is another
elsewhere : {b : List ℕ} {k r : ℕ} {o : Order} (l : ℕ) → IsOrder b k r o → Test (Elsewhere b k r l) (eqb o.locate.0 l)
elsewhere {o = o} l i =
    alike
    (λ d. record { order = o; is = i; differs = d })
    (λ x e. x.differs (ap (λ (y : Order). y.locate.0) (order_unique x.is i) ∙ e))
    (differ o.locate.0 l)

-- 11: more shares than remain
over : {b : List ℕ} {k r : ℕ} {o : Order} (n : ℕ) → IsOrder b k r o → Test (Over b k r n) (leb n (remaining o))
over {o = o} n i =
    alike
    (λ l. record { order = o; is = i; above = l })
    (λ x. omega (arith, ap remaining (order_unique x.is i), x.above))
    (above n (remaining o))

-- the number of what is asked is one that 01 gives for it
pub earned : (d b : List ℕ) (k : ℕ) (a : Asked) → Comes (verdict_on d b k a) (Earned d b k a)
earned d b k (register l symbol) = registers d l symbol (entry_at d l) refl
earned d b k (start o symbol) = places d b k o.locate.0 symbol o (entry_at d o.locate.0) refl
earned d b k (take how r l n) =
    named_comes (taking (taken_by how) l n) refl refl (sight b k r) λ o i.
    check refusal.Conflict (elsewhere l i) λ _. check refusal.Over (over n i) λ _. record { number = refl }
earned d b k (close r l) =
    named_comes (closing l) refl refl (sight b k r) λ o i.
    check refusal.Conflict (elsewhere l i) λ _. record { number = refl }
earned d b k (replace original new l n p) =
    named_comes (replacing l original new n p (is_at (find b k new))) refl refl (sight b k original) λ o i.
    check refusal.Conflict (elsewhere l i) λ _. check_two refusal.Duplicate (agree new original) (is_live_lem b k new) (record { number = refl })
earned d b k no_more = record { number = refl }
