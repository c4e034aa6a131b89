-- What a pass comes to where the book may be no book and the side is a byte: the refusals 14, 4 and 13 in this order, or what it
-- saw. Its laws turn that into the answers of the questions. Assumes nothing.
use Rattle.refusals.specs.declared.Refusal.TheVariants.{Book, Field, Shape}
use Rattle.std.specs.Prelude.{◌≡◌, ℕ, ◌*◌, ◌≤◌, Bool, true, false, cond, List, length, ◌==◌, refl, Option, Result, Some, None, Ok, Err, ok_or}
use Rattle.std.proofs.Common.{sym, ap, ◌∙◌, arith, eq-eqb, ne_eqb, eqb-true}
use Rattle.std.proofs.lemmas.Bool.{eqb-false}
use Rattle.refusals.specs.declared.Refusal.{Refusal}
use Rattle.kinds.specs.Sides.{good_side}
use Rattle.book.specs.Book.{words_of}
use Rattle.levels.specs.declared.Wanted.{Wanted}
use Rattle.levels.specs.declared.Best.{Best}
use Rattle.levels.specs.Totals.{total}
use Rattle.levels.specs.Levels.{unsoundness, all_prices, no_quote, checked}
use Rattle.levels.specs.Visits.{visited}
use Rattle.levels.specs.Seen.{best_in, pass_unsound, pass_seen}
use Rattle.levels.specs.declared.Level.{Level}

abbrev pub refusing : Refusal → Result Best Refusal
refusing r = Err r

abbrev pub pass_reply : Option Best → Result Best Refusal
pass_reply pass = ok_or pass Book

-- by the tests of the book and of the side
abbrev asking : Bool → Bool → Option Best → Result Best Refusal
asking t u p = cond t (refusing Shape) (cond u (pass_reply p) (refusing Field))

unfoldable pub scanned : Wanted → List ℕ → ℕ → Result Best Refusal
scanned w b byte = asking (words_of (length b) == 0) (good_side byte) (visited w b (words_of (length b)) (64 * words_of (length b)))

-- ---- the ways that asking goes

pub no_book : (w : Wanted) (b : List ℕ) (byte : ℕ) → words_of (length b) ≡ 0 → refusing Shape ≡ scanned w b byte
unfolding scanned
no_book w b byte e = rw (eq-eqb (words_of (length b)) 0 e)

module _ (w : Wanted) (b : List ℕ) (byte k : ℕ) (e : k ≡ words_of (length b)) (n : k ≡ 0 → ⊥) where
  pub no_side : good_side byte ≡ false → refusing Field ≡ scanned w b byte
  unfolding scanned
  no_side g = rw (← e) (rw (ne_eqb k 0 n, g))

  pub passed : good_side byte ≡ true → (p : Option Best) → visited w b k (64 * k) ≡ p → pass_reply p ≡ scanned w b byte
  unfolding scanned
  passed g p q = rw (← e) (rw (ne_eqb k 0 n, g, q))

  pub asked_unsound : good_side byte ≡ true → visited w b k (64 * k) ≡ None → refusing Book ≡ scanned w b byte
  asked_unsound g q = passed g None q

  pub asked-seen : good_side byte ≡ true → (x : Best) → visited w b k (64 * k) ≡ Some x → Ok x ≡ scanned w b byte
  asked-seen g x q = passed g (Some x) q

-- ---- from what was asked to the answer

-- a question's answer, by the tests of the book, of the side and of the slots
abbrev deciding : Bool → Bool → Bool → Result (Option Level) Refusal → Result (Option Level) Refusal
deciding t u v q = cond t (no_quote Shape) (cond u (cond v q (no_quote Book)) (no_quote Field))

-- a pass that saw y where the slots are sound, and else stopped
module _ (v : Bool) (p : Option Best) (y : Best) (fine : v ≡ true → p ≡ Some y) (foul : v ≡ false → p ≡ None) where
  refused_by : (t u : Bool) (x : Refusal) (q : Result (Option Level) Refusal) → asking t u p ≡ Err x → Err x ≡ deciding t u v q
  refused_by true u x q e = cc
  refused_by false false x q e = cc
  refused_by false true x q e = go v refl
    where
      go : (z : Bool) → v ≡ z → Err x ≡ cond z q (no_quote Book)
      go true h = let a = sym (ap pass_reply (fine h)) ∙ e in let n : ◌≡◌ {A = ℕ} 0 1 = cc in absurd (omega arith)
      go false h = let a = sym (ap pass_reply (foul h)) ∙ e in cc

  answered_by : (t u : Bool) (x : Best) → asking t u p ≡ Ok x → ((q : Result (Option Level) Refusal) → deciding t u v q ≡ q) × (x ≡ y)
  answered_by true u x e = let n : ◌≡◌ {A = ℕ} 0 1 = cc in absurd (omega arith)
  answered_by false false x e = let n : ◌≡◌ {A = ℕ} 0 1 = cc in absurd (omega arith)
  answered_by false true x e = go v refl
    where
      go : (z : Bool) → v ≡ z → ((q : Result (Option Level) Refusal) → cond z q (no_quote Book) ≡ q) × (x ≡ y)
      go true h = let a = sym (ap pass_reply (fine h)) ∙ e in ((λ q. refl), cc)
      go false h = let a = sym (ap pass_reply (foul h)) ∙ e in let n : ◌≡◌ {A = ℕ} 0 1 = cc in absurd (omega arith)

module _ (w : Wanted) (b : List ℕ) (byte : ℕ) (l : w.to ≤ all_prices) where
  fine : (k : ℕ) → (total unsoundness b k == 0) ≡ true → visited w b k (64 * k) ≡ Some (best_in w b k)
  fine k h = pass_seen w b k l (eqb-true (total unsoundness b k) 0 h)

  foul : (k : ℕ) → (total unsoundness b k == 0) ≡ false → visited w b k (64 * k) ≡ None
  foul k h = pass_unsound w b k (eqb-false (total unsoundness b k) 0 h)

  -- a refusal is the question's
  pub ask_refused : (x : Refusal) (q : Result (Option Level) Refusal) → scanned w b byte ≡ Err x → Err x ≡ checked b byte q
  unfolding scanned
  ask_refused x q e =
      let k = words_of (length b) in
      refused_by (total unsoundness b k == 0) (visited w b k (64 * k)) (best_in w b k) (fine k) (foul k) (k == 0) (good_side byte) x q e

  -- an answer: nothing is refused, and what was seen is what stands
  pub ask_answered : (x : Best) → scanned w b byte ≡ Ok x → ((q : Result (Option Level) Refusal) → checked b byte q ≡ q) × (x ≡ best_in w b (words_of (length b)))
  unfolding scanned
  ask_answered x e =
      let k = words_of (length b) in
      answered_by (total unsoundness b k == 0) (visited w b k (64 * k)) (best_in w b k) (fine k) (foul k) (k == 0) (good_side byte) x e
