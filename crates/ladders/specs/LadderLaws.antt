-- The levels that are shown are the first of all levels, and the rung to go on from is where the rest of them begin: so a buffer that
-- is filled again and again shows every level once, in order. Assumes nothing.
use Prim.Native.Nat.{ℕ, zero, suc, ◌+◌, ◌-◌, ◌≤◌, ◌<◌}
use Rattle.std.specs.Prelude.{◌≡◌, refl, true, false, List, [], ◌++◌, length}
use Rattle.std.proofs.Common.{sym, ap, ◌∙◌, append_assoc, ⊎_elim, lt-ltb, le-ltb}
use native.Mathlib.Omega.{arith}
use Rattle.laws.specs.Least.{lt-or-le}
use Rattle.book.specs.Book.{words_of}
use Rattle.ladders.specs.Ladders.{stands_there, record_at, levels_from, readable, first_rung, Shown, level_behind, shown}
use Rattle.ladders.specs.RungLaws.{rung_le, first_clear, first_stands, le-first}

-- ---- one more record, or none left

module _ (n : ℕ) (b : List ℕ) (from to : ℕ) where
  pub shown-more : first_rung b from to < to
      → shown (suc n) b from to ≡ level_behind (record_at b (words_of (length b)) (first_rung b from to)) (shown n b (first_rung b from to + 1) to)
  unfolding shown
  shown-more l = rw (lt-ltb (first_rung b from to) to l)

  pub shown-end : to ≤ first_rung b from to → shown (suc n) b from to ≡ record { records = []; rung = to }
  unfolding shown
  shown-end l = rw (le-ltb (first_rung b from to) to l)

-- ---- the rung to go on from

abbrev rung_of : Shown → ℕ
rung_of x = x.rung

pub le-shown : (n : ℕ) (b : List ℕ) (from to : ℕ) → from ≤ to → from ≤ (shown n b from to).rung
unfolding shown
le-shown zero b from to h = omega arith
le-shown (suc n) b from to h =
    ⊎_elim
    (λ l. omega (arith, ap rung_of (shown-more n b from to l), le-first b from to h, le-shown n b (first_rung b from to + 1) to (omega arith)))
    (λ l. omega (arith, ap rung_of (shown-end n b from to l)))
    (lt-or-le (first_rung b from to) to)

pub shown-le : (n : ℕ) (b : List ℕ) (from to : ℕ) → from ≤ to → (shown n b from to).rung ≤ to
unfolding shown
shown-le zero b from to h = h
shown-le (suc n) b from to h =
    ⊎_elim
    (λ l. omega (arith, ap rung_of (shown-more n b from to l), shown-le n b (first_rung b from to + 1) to (omega arith)))
    (λ l. omega (arith, ap rung_of (shown-end n b from to l)))
    (lt-or-le (first_rung b from to) to)

-- a buffer that has room for a record gets on
pub shown-lt : (n : ℕ) (b : List ℕ) (from to : ℕ) → from < to → from < (shown (suc n) b from to).rung
shown-lt n b from to h =
    ⊎_elim
    (λ l. omega
    (arith, ap rung_of (shown-more n b from to l), le-first b from to (omega arith), le-shown n b (first_rung b from to + 1) to (omega arith)))
    (λ l. omega (arith, ap rung_of (shown-end n b from to l)))
    (lt-or-le (first_rung b from to) to)

-- ---- the levels

module _ (b : List ℕ) (k : ℕ) where
  -- rungs at which nothing stands add nothing
  levels_skip : (n d m from p : ℕ) → d ≡ n + m → p ≡ from + n → ((j : ℕ) → from ≤ j → j < p → stands_there b k j ≡ false)
      → levels_from b k from d ≡ levels_from b k p m
  unfolding levels_from
  levels_skip zero d m from p e f h = let e' : d ≡ m = omega arith in let f' : p ≡ from = omega arith in rw (e', f')
  levels_skip (suc n) zero m from p e f h = absurd (omega arith)
  levels_skip (suc n) (suc d) m from p e f h =
      rw (h from (omega arith) (omega arith)) (levels_skip n d m (from + 1) p (omega arith) (omega arith) (λ j l. h j (omega arith)))

  levels_here : (from d m : ℕ) → d ≡ suc m → stands_there b k from ≡ true
      → levels_from b k from d ≡ record_at b k from ++ levels_from b k (from + 1) m
  unfolding levels_from
  levels_here from d m e s = rw (e, s)

module _ (b : List ℕ) (from to : ℕ) (r : readable b ≡ true) (h : from ≤ to) where
  -- nothing stands before the first rung
  to_first : levels_from b (words_of (length b)) from (to - from) ≡ levels_from b (words_of (length b)) (first_rung b from to) (to - first_rung b from to)
  to_first =
      let p = first_rung b from to in
      let l = le-first b from to h in
      let m = rung_le b from to in
      levels_skip b (words_of (length b)) (p - from) (to - from) (to - p) from p (omega arith) (omega arith) (first_clear b from to r)

abbrev going_on : List ℕ → ℕ → Shown → List ℕ
going_on b to x = x.records ++ levels_from b (words_of (length b)) x.rung (to - x.rung)

-- the levels from a rung on are those shown, and then those from the rung to go on from
pub shown_all : (n : ℕ) (b : List ℕ) (from to : ℕ) → readable b ≡ true → from ≤ to
    → levels_from b (words_of (length b)) from (to - from)
    ≡ (shown n b from to).records ++ levels_from b (words_of (length b)) (shown n b from to).rung (to - (shown n b from to).rung)
unfolding shown
shown_all zero b from to r h = refl
shown_all (suc n) b from to r h =
    let k = words_of (length b) in
    let p = first_rung b from to in
    to_first b from to r h
    ∙ ⊎_elim
    (λ (l : p < to). levels_here b k p (to - p) (to - (p + 1)) (omega arith) (first_stands b from to l)
    ∙ ap (λ x. record_at b k p ++ x) (shown_all n b (p + 1) to r (omega arith))
    ∙ sym (append_assoc (record_at b k p) (shown n b (p + 1) to).records _)
    ∙ ap (going_on b to) (sym (shown-more n b from to l)))
    (λ (l : to ≤ p). let e : p ≡ to = omega (arith, rung_le b from to) in rw (shown-end n b from to l, e))
    (lt-or-le p to)
