-- A buffer that is filled record by record: so far its first bytes are what has been shown, and the rest is as it came. One record more
-- keeps that; a buffer that is full, or a book with no level left, is what the call leaves. Assumes nothing.
use Prim.Native.Nat.{ℕ, suc, ◌+◌, ◌-◌, ◌/◌, ◌≤◌, ◌<◌}
use mathlib.Core.Path.{◌≡◌, refl, sym, ap, subst, ◌∙◌}
use mathlib.Core.Bool.{Bool, true, false, cond}
use mathlib.Core.List.{List, [], ◌++◌, append_assoc, append-nil}
use native.Mathlib.Omega.{arith}
use lib.Dec.{ltb}
use lib.ListN.{length, take, drop, take-append-drop}
use lib.Seq.{length-take-le, drop-drop}
use borrow.Author.Tests.{ltb-true, ltb-false}
use Rattle.book.specs.Book.{words_of}
use Rattle.levels.specs.declared.Level.{Level}
use Rattle.records.specs.Append.{appended, reach}
use Rattle.records.specs.RecordLaws.{length-level_record, reach_fits, length-appended, take-appended, drop-appended}
use Rattle.std.specs.Prelude.{Option, Some, None}
use Rattle.ladders.specs.Ladders.{level_there, kind_of, locate_at, side_at, record_at, first_rung, Shown, level_behind, shown, fill_leaves}
use Rattle.ladders.specs.Search.{next_from, record_row}
use Rattle.ladders.specs.LadderLaws.{shown-more, shown-end}

-- ---- what a search says

abbrev Says : ℕ → ℕ → Level → Option (ℕ × Level) → Type 0
Says first to l (Some x) = (first < to) × (x.0 ≡ first) × (x.1 ≡ l)
Says first to l None = to ≤ first

next_says : (b : List ℕ) (from to : ℕ) (x : Option (ℕ × Level)) → next_from b from to ≡ x
    → Says (first_rung b from to) to (level_there b (words_of (length b)) (first_rung b from to)) x
unfolding next_from
next_says b from to x e = subst (Says p to l) e (go (ltb p to) refl)
  where
    p : ℕ
    p = first_rung b from to

    l : Level
    l = level_there b (words_of (length b)) (first_rung b from to)

    go : (t : Bool) → ltb p to ≡ t → Says p to l (cond t (Some (p, l)) None)
    go true h = (ltb-true p to h, refl, refl)
    go false h = ltb-false p to h

-- the rung that it finds lies before the end
pub found_lt : (b : List ℕ) (from to p : ℕ) (l : Level) → next_from b from to ≡ Some (p, l) → p < to
found_lt b from to p l e = let s = next_says b from to (Some (p, l)) e in omega arith

-- one record more, and none left
module _ (b : List ℕ) (n from to : ℕ) where
  one_more : (p : ℕ) (l : Level) → next_from b from to ≡ Some (p, l) → shown (suc n) b from to ≡ level_behind (record_row p l) (shown n b (p + 1) to)
  unfolding record_at
  one_more p l e = let s = next_says b from to (Some (p, l)) e in shown-more n b from to s.0 ∙ rw (s.1, s.2)

  none_left : next_from b from to ≡ None → shown (suc n) b from to ≡ record { records = []; rung = to }
  none_left e = shown-end n b from to (next_says b from to None e)

-- ---- the buffer

behind_twice : (u v : List ℕ) (x : Shown) → level_behind u (level_behind v x) ≡ level_behind (u ++ v) x
behind_twice u v x = ap (λ (r : List ℕ). record { records = r; rung = x.rung }) (sym (append_assoc u v x.records))

pub record Filling (b first : List ℕ) (from to : ℕ) (out : List ℕ) (rung at : ℕ) : Type 0 where
  pub size : length out ≡ length first
  pub within : at ≤ length first
  pub rest : drop at out ≡ drop at first
  pub done : shown (length first / 19) b from to ≡ level_behind (take at out) (shown ((length first - at) / 19) b rung to)

pub start : (b first : List ℕ) (from to : ℕ) → Filling b first from to first from 0
start b first from to = record {
  size = refl;
  within = omega arith;
  rest = refl;
  done = let e : length first / 19 ≡ (length first - 0) / 19 = omega arith in ap (λ n. shown n b from to) e;
}

module _ (b first : List ℕ) (from to : ℕ) (out : List ℕ) (rung at : ℕ) (f : Filling b first from to out rung at) where
  -- one row more
  module _ (room : 19 ≤ length out - at) (p : ℕ) (l : Level) (e : next_from b rung to ≡ Some (p, l)) where
    size : length (record_row p l) ≡ 19
    size = length-level_record (kind_of (side_at p)) (locate_at p) l.price l.shares l.orders

    fits : at + length (record_row p l) ≤ length out
    fits = omega (arith, f.size, f.within, size)

    module _ (out' : List ℕ) (at' : ℕ) (r : at' ≡ reach out at (record_row p l)) (a : out' ≡ appended out at (record_row p l)) where
      pub less : length out' - at' < length out - at
      less = omega (arith, f.size, size, r, reach_fits out at (record_row p l) fits, ap length a, length-appended out at (record_row p l) fits)

      pub more : Filling b first from to out' (p + 1) at'
      more =
          let row = record_row p l in
          let m = (length first - (at + length row)) / 19 in
          let turns : (length first - at) / 19 ≡ suc m = omega (arith, f.size, size) in
          rw (r ∙ reach_fits out at row fits, a) record {
            size = length-appended out at row fits ∙ f.size;
            within = omega (arith, f.size, fits);
            rest = drop-appended out at row fits ∙ sym (drop-drop (length row) at out) ∙ ap (drop (length row)) f.rest ∙ drop-drop (length row) at first;
            done = f.done
                ∙ ap (λ i. level_behind (take at out) (shown i b rung to)) turns
                ∙ ap (level_behind (take at out)) (one_more b m rung to p l e)
                ∙ behind_twice (take at out) row (shown m b (p + 1) to)
                ∙ ap (λ x. level_behind x (shown m b (p + 1) to)) (sym (take-appended out at row fits));
          }

  -- nothing more to show: what stands there is what the call leaves
  leave : (p : ℕ) → shown ((length first - at) / 19) b rung to ≡ record { records = []; rung = p }
      → record { filled = record { rung = p; written = at }; out = out } ≡ fill_leaves first (shown (length first / 19) b from to)
  leave p e =
      let here : shown (length first / 19) b from to ≡ record { records = take at out; rung = p } =
      f.done ∙ ap (level_behind (take at out)) e ∙ ap (λ (r : List ℕ). record { records = r; rung = p }) (append-nil (take at out)) in
      let size : length (take at out) ≡ at = length-take-le at out (omega (arith, f.size, f.within)) in
      let whole : out ≡ take at out ++ drop at first = sym (take-append-drop at out) ∙ ap (λ r. take at out ++ r) f.rest in
      rw (here, size) (ap (λ (r : List ℕ). record { filled = record { rung = p; written = at }; out = r }) whole)

  pub full : length out - at < 19 → record { filled = record { rung = rung; written = at }; out = out } ≡ fill_leaves first (shown (length first / 19) b from to)
  unfolding shown
  full h = let none : (length first - at) / 19 ≡ 0 = omega (arith, f.size) in leave rung (ap (λ n. shown n b rung to) none)

  pub end : 19 ≤ length out - at → next_from b rung to ≡ None
      → record { filled = record { rung = to; written = at }; out = out } ≡ fill_leaves first (shown (length first / 19) b from to)
  end room e =
      let m = (length first - (at + 19)) / 19 in
      let turns : (length first - at) / 19 ≡ suc m = omega (arith, f.size) in
      leave to (ap (λ n. shown n b rung to) turns ∙ none_left b m rung to e)
