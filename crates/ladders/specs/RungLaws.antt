-- The laws of the first rung: nothing stands before it, an order stands there if it is below the end, and it is found side by side:
-- where nothing stands on the rest of a side, it is that from the next side on. Assumes nothing.
use Rattle.std.specs.Prelude.{ℕ, ◌/◌, ◌%◌, ◌≤◌, ◌<◌, ◌≡◌, Bool, true, false, cond, ◌&&◌, List, eqb, leb, length}
use Rattle.std.proofs.Common.{sym, ap, ◌∙◌, ⊎_elim, arith}
use borrow.Author.Tests.{leb-true, le-leb, lt-leb, le-ltb}
use Rattle.laws.specs.Bools.{cases, and_left, and_right}
use Rattle.laws.specs.Least.{least_is, least-le, least_none, least_at, least_ext, lt-or-le}
use Rattle.laws.specs.Definitions.{least}
use Rattle.kinds.specs.declared.Side.TheVariants.{Buy, Sell}
use Rattle.book.specs.Book.{words_of}
use Rattle.levels.specs.Levels.{all_prices, some_at}
use Rattle.levels.specs.Ticks.{price_at, first_tick}
use Rattle.levels.specs.TickLaws.{count_at, first_none, stands_first}
use Rattle.ladders.specs.Ladders.{locate_at, side_at, tick_at, stands_there, readable, first_rung}
use Rattle.ladders.specs.Search.{on_side, side_after}

-- ---- the first rung

abbrev test : List ℕ → ℕ → ℕ → Bool
test b from p = leb from p && stands_there b (words_of (length b)) p

module _ (b : List ℕ) (from to : ℕ) where
  read : readable b ≡ true → first_rung b from to ≡ least (test b from) to
  unfolding first_rung
  read e = rw e

  pub first_unread : readable b ≡ false → first_rung b from to ≡ to
  unfolding first_rung
  first_unread e = rw e

  -- a book that cannot be read has no first rung below the end
  pub first-readable : first_rung b from to < to → readable b ≡ true
  first-readable l = ⊎_elim (λ e. e) (λ e. absurd (omega (arith, first_unread e))) (cases (readable b))

  pub rung_le : first_rung b from to ≤ to
  rung_le = ⊎_elim (λ e. omega (arith, read e, least-le (test b from) to)) (λ e. omega (arith, first_unread e)) (cases (readable b))

  pub first_clear : readable b ≡ true → (j : ℕ) → from ≤ j → j < first_rung b from to → stands_there b (words_of (length b)) j ≡ false
  first_clear e j h l =
      let n : test b from j ≡ false = least_none (test b from) to j (omega (arith, read e)) in
      rw (le-leb from j h) at n

  at_first : first_rung b from to < to → test b from (first_rung b from to) ≡ true
  at_first l = let e = read (first-readable l) in rw e (least_at (test b from) to (omega arith))

  pub first_stands : first_rung b from to < to → stands_there b (words_of (length b)) (first_rung b from to) ≡ true
  first_stands l = let p = first_rung b from to in and_right (leb from p) (stands_there b (words_of (length b)) p) (at_first l)

  pub first_late : first_rung b from to < to → from ≤ first_rung b from to
  first_late l = let p = first_rung b from to in leb-true from p (and_left (leb from p) (stands_there b (words_of (length b)) p) (at_first l))

  pub le-first : from ≤ to → from ≤ first_rung b from to
  le-first h = ⊎_elim (λ l. first_late l) (λ l. omega arith) (lt-or-le (first_rung b from to) to)

-- ---- the rungs of a side

module _ (p r : ℕ) (e : r / all_prices ≡ p / all_prices) where
  pub same_locate : locate_at r ≡ locate_at p
  same_locate = omega arith

  pub same_side_lem : side_at r ≡ side_at p
  same_side_lem = ap (λ x. cond (eqb (x % 2) 0) Buy Sell) e

  there : (b : List ℕ) (k : ℕ) → stands_there b k r ≡ some_at b k (locate_at p) (side_at p) (price_at (side_at p) (tick_at r))
  unfolding stands_there
  there b k = rw (same_locate, same_side_lem)

-- the first tick of a rung's side, from the rung on, at which an order stands
abbrev pub tick_on : List ℕ → ℕ → ℕ
tick_on b p = first_tick b (words_of (length b)) (locate_at p) (side_at p) (tick_at p) all_prices

module _ (b : List ℕ) (p to : ℕ) (h : readable b ≡ true) where
  -- nothing stands on the side before it
  clear : (j : ℕ) → p ≤ j → j / all_prices ≡ p / all_prices → tick_at j < tick_on b p → stands_there b (words_of (length b)) j ≡ false
  unfolding some_at
  clear j l e m =
      let k = words_of (length b) in
      let n = first_none b k (locate_at p) (side_at p) (tick_at p) all_prices (tick_at j) (omega arith) m in
      there p j e b k ∙ le-ltb 0 (count_at b k (locate_at p) (side_at p) (tick_at j)) (omega arith)

  pub found_here : tick_on b p < all_prices → on_side p (tick_on b p) < to → first_rung b p to ≡ on_side p (tick_on b p)
  found_here m l =
      let k = words_of (length b) in
      let s = stands_first b k (locate_at p) (side_at p) (tick_at p) all_prices m in
      let r = on_side p (tick_on b p) in
      let same : r / all_prices ≡ p / all_prices = omega arith in
      let at : tick_at r ≡ tick_on b p = omega arith in
      let here : stands_there b k r ≡ true = there p r same b k ∙ ap (λ i. some_at b k (locate_at p) (side_at p) (price_at (side_at p) i)) at ∙ s.1 in
      let late : p ≤ r = omega (arith, s.0) in
      read b p to h
      ∙ least_is (test b p) to r (omega arith)
      (λ j n. ⊎_elim
      (λ (c : j < p). rw (lt-leb p j c))
      (λ (c : p ≤ j). rw (le-leb p j c, clear j c (omega arith) (omega arith)))
      (lt-or-le j p))
      (λ n. rw (le-leb p r late, here))

  pub side_after_lem : all_prices ≤ tick_on b p → first_rung b p to ≡ first_rung b (side_after p) to
  side_after_lem m =
      let q = side_after p in
      read b p to h
      ∙ least_ext (test b p) (test b q) to
      (λ j n. ⊎_elim
      (λ (c : j < p). rw (lt-leb p j c, lt-leb q j (omega arith)))
      (λ (c : p ≤ j). ⊎_elim
      (λ (d : j < q). rw (le-leb p j c, lt-leb q j d, clear j c (omega arith) (omega arith)))
      (λ (d : q ≤ j). rw (le-leb p j c, le-leb q j d))
      (lt-or-le j q))
      (lt-or-le j p))
      ∙ sym (read b q to h)
