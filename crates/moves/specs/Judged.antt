-- The verdict on what is asked has its facts (`facts`), gate by gate: what follows a gate may use that its test passed.
-- Assumes nothing.
use Rattle.refusals.specs.declared.Refusal.TheVariants.{Book, Conflict, NoOrder}
use Rattle.refusals.specs.declared.Refusal.{Refusal}
use Rattle.std.specs.Prelude.{◌≡◌, refl, Bool, true, false, not, cond, List, ℕ, ◌+◌, ◌*◌, ◌≤◌, ◌<◌, eqb, leb, Option, Some, None}
use Rattle.std.proofs.Common.{sym, ap, subst, ◌∙◌, inl, inr, arith, eqb-true, leb-true}
use Rattle.std.proofs.lemmas.Bool.{false≢true, eqb-false, not-true}
use Rattle.text.specs.Text.{text, letters, letter}
use Rattle.kinds.specs.declared.Slot.{Slot}
use Rattle.kinds.specs.Admission.{maximum}
use Rattle.book.specs.Book.{number_at, find, lowest_free}
use Rattle.book.specs.Finds.{found_slot}
use Rattle.book.specs.Shape.{Sized}
use Rattle.book.specs.Slots.{cleared_room}
use Rattle.directory.specs.Directory.{entry_at, is_symbol}
use Rattle.directory.specs.DirectoryLaws.{entry_means, symbol_is}
use Rattle.orders.specs.declared.Order.{Order}
use Rattle.orders.specs.Order.{remaining}
use Rattle.orders.specs.OrderLaws.{Fit, held_fit, held-numbers, fresh_fit}
use Rattle.decide.specs.Decide.{Verdict, refuse, enroll, pass, gate, unattributed, renewed}
use Rattle.decide.specs.Decide.{Seen, unseen, something, is_registered, registering, taking, closing, replacing}
use Rattle.slots.specs.Stored.{held_at, is_at, seen_in}
use Rattle.take.specs.Taken.{taken_by}
use Rattle.steps.specs.Asked.{Asked, register, start, take, close, replace, nothing}
use Rattle.steps.specs.Steps.{verdict_on}
use Rattle.moves.specs.Lawful.{Starts, Symbolic, Lawful}
use Rattle.moves.specs.Moves.{Numbers}
use Rattle.moves.specs.Facts.{Rests, Facts}

-- ---- what tests say

absent : (f : Option Slot) → not (is_at f) ≡ true → f ≡ None
absent (Some s) e = absurd (false≢true e)
absent None e = refl

present : (f : Option Slot) → is_at f ≡ true → (s : Slot) × (f ≡ Some s)
present (Some s) e = (s, refl)
present None e = absurd (false≢true e)

-- ---- the orders

-- the order in a slot that is found, where the book's numbers fit 64 bits
rests : (b : List ℕ) (k r : ℕ) (s : Slot) (o : Order) → Numbers b → find b k r ≡ Some s → held_at b k s.0 ≡ Some o → Rests b k r o
unfolding held_at number_at
rests b k r s o n e h =
    let g = found_slot b k r s e in
    let same = (held-numbers _ _ _ _ o h).0 ∙ g.2 in
    record {
      slot = s;
      found = e;
      inside = g.0;
      alive = g.1;
      holding = h;
      reference = same;
      fits = omega (arith, g.2, n (k + 4 * s.0 + 0));
      fit = held_fit _ _ _ _ o (n (k + 4 * s.0 + 3)) h;
    }

started_fit : (o : Order) → Starts o → 1 ≤ o.locate.0 → Fit o
started_fit o s l =
    fresh_fit o s.price s.some s.added s.executed s.cancelled s.closed l s.locate s.attribution s.worded

nsdq : text 4 unattributed ≡ true
unfolding text letters letter
nsdq = refl

renewed_fit : (o : Order) (new n p : ℕ) → Fit o → 1 ≤ n → n < 4294967296 → p ≤ maximum → Fit (renewed o new n p)
renewed_fit o new n p f some few cheap =
    fresh_fit (renewed o new n p) cheap some few refl refl refl f.listed f.locate (omega arith) nsdq

-- ---- what a verdict has

-- v has its facts; a record, so that v is found from a goal
record Told (d b : List ℕ) (k : ℕ) (a : Asked) (v : Verdict) : Type 0 where
  told : Facts d b k a v

module _ {d b : List ℕ} {k : ℕ} {a : Asked} where
  refusal : {r : Refusal} → Told d b k a (refuse r)
  refusal = record { told = tt }

  -- what follows a gate holds where the test passed
  through : {v : Verdict} (t : Bool) (r : Refusal) → (t ≡ true → Told d b k a v) → Told d b k a (gate t r v)
  through true r f = f refl
  through false r f = refusal

  -- of what is seen under a reference only a sound order comes to anything
  named : (r : ℕ) (f : Seen → Verdict) → Numbers b → f unseen ≡ refuse NoOrder → f (something None) ≡ refuse Book
      → ((o : Order) → Rests b k r o → Told d b k a (f (something (Some o)))) → Told d b k a (f (seen_in b k (find b k r)))
  named r f n p q next = go (find b k r) refl
    where
      holding : (s : Slot) → find b k r ≡ Some s → (h : Option Order) → held_at b k s.0 ≡ h → Told d b k a (f (something h))
      holding s e None h = subst (Told d b k a) (sym q) refusal
      holding s e (Some o) h = next o (rests b k r s o n e h)

      go : (g : Option Slot) → find b k r ≡ g → Told d b k a (f (seen_in b k g))
      go None e = subst (Told d b k a) (sym p) refusal
      go (Some s) e = holding s e (held_at b k s.0) refl

-- ---- what is asked

registers : (d b : List ℕ) (k l symbol : ℕ) → Symbolic symbol → (e : Option ℕ) → entry_at d l ≡ e
    → Told d b k (register l symbol) (registering e l symbol)
registers d b k l symbol y None p = refusal
registers d b k l symbol y (Some n) p = go (eqb n 0) refl
  where
    go : (t : Bool) → eqb n 0 ≡ t → Told d b k (register l symbol) (cond t (enroll l symbol) (gate (eqb n symbol) Conflict pass))
    go true e =
        let i = (entry_means d l n).0 p in
        record {
          told = record { asks = refl; vacant = p ∙ ap Some (eqb-true n 0 e); from = i.from; inside = i.inside; symbolic = y };
        }
    go false e =
        through (eqb n symbol) _ λ q.
        record {
          told = inr (record { locate = l; symbol = symbol; asks = refl; listed = p ∙ ap Some (eqb-true n symbol q); symbolic = y });
        }

tells : (d b : List ℕ) (k : ℕ) (a : Asked) → Sized b k → Numbers b → Lawful a → Told d b k a (verdict_on d b k a)
tells d b k (register l symbol) z n y = registers d b k l symbol y.1 (entry_at d l) refl
tells d b k (start o symbol) z n y =
    let e = entry_at d o.locate.0 in
    through (is_registered e) _ λ _.
    through (is_symbol symbol e) _ λ p.
    through (not (is_at (find b k o.reference.0))) _ λ q.
    through (is_at (lowest_free b k)) _ λ r.
    let listed = symbol_is symbol e p in
    let room = present (lowest_free b k) r in
    record {
      told = record {
        symbol = symbol;
        asks = refl;
        listed = listed;
        symbolic = y.1;
        unknown = absent (find b k o.reference.0) q;
        slot = room.0;
        free = room.1;
        starts = y.0;
        fit = started_fit o y.0 ((entry_means d o.locate.0 symbol).0 listed).from;
      };
    }
tells d b k (take how r l c) z n y =
    named r (taking (taken_by how) l c) n refl refl λ o w.
    through (eqb o.locate.0 l) _ λ p.
    through (leb c (remaining o)) _ λ q.
    record {
      told = record {
        how = how;
        reference = r;
        locate = l;
        asks = refl;
        rests = w;
        here = eqb-true o.locate.0 l p;
        some = y.0;
        within = leb-true c (remaining o) q;
        after = refl;
      };
    }
tells d b k (close r l) z n y =
    named r (closing l) n refl refl λ o w.
    through (eqb o.locate.0 l) _ λ p.
    record {
      told = record { reference = r; locate = l; asks = refl; rests = w; here = eqb-true o.locate.0 l p };
    }
tells d b k (replace original new l c price) z n y =
    named original (replacing l original new c price (is_at (find b k new))) n refl refl λ o w.
    through (eqb o.locate.0 l) _ λ p.
    through (not (eqb new original)) _ λ q.
    through (not (is_at (find b k new))) _ λ r.
    let room = cleared_room b k w.slot.0 z w.inside in
    record {
      told = record {
        original = original;
        new = new;
        locate = l;
        shares = c;
        price = price;
        asks = refl;
        rests = w;
        here = eqb-true o.locate.0 l p;
        other = eqb-false new original (not-true (eqb new original) q);
        unknown = absent (find b k new) r;
        slot = room.0;
        free = room.1;
        fits = y.3;
        after = refl;
        fit = renewed_fit o new c price w.fit y.0 y.1 y.2;
      };
    }
tells d b k nothing z n y = record { told = inl refl }

-- the verdict on what is asked has its facts
pub facts : (d b : List ℕ) (k : ℕ) (a : Asked) → Sized b k → Numbers b → Lawful a → Facts d b k a (verdict_on d b k a)
facts d b k a z n y = (tells d b k a z n y).told
