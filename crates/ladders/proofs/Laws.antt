-- What the answer about one side says of the search for the next level. Assumes nothing.
use Rattle.refusals.specs.declared.Refusal.TheVariants.{Book, Shape}
use Rattle.std.specs.Prelude.{Option, Result, Some, None, Ok, Err}
use Prim.Native.Nat.{ℕ, ◌/◌, ◌≤◌, ◌<◌}
use mathlib.Core.Path.{◌≡◌, refl, sym, ap, subst, ◌∙◌}
use mathlib.Core.Bool.{Bool, true, false, cond}
use mathlib.Core.List.{List}
use mathlib.Core.Logic.{⊎_elim}
use native.Mathlib.Omega.{arith}
use lib.Dec.{eqb, ltb}
use lib.ListN.{length}
use borrow.Author.Tests.{ltb-true, ltb-false, lt-ltb, le-ltb}
use Rattle.laws.specs.Least.{lt-or-le}
use Rattle.refusals.specs.declared.Refusal.{Refusal}
use Rattle.kinds.specs.Sides.{side_byte, side_of}
use Rattle.kinds.specs.SideLaws.{byte-good, side_back}
use Rattle.book.specs.Book.{words_of}
use Rattle.levels.specs.declared.Level.{Level}
use Rattle.levels.specs.Totals.{total}
use Rattle.levels.specs.Levels.{unsoundness, all_prices, level_at, no_quote, checked}
use Rattle.levels.specs.Ticks.{price_at, ticks_to, level_from}
use Rattle.levels.specs.TickLaws.{ticks_price, from_first}
use Rattle.std.specs.Prelude.{Some, None}
use Rattle.ladders.specs.Ladders.{first_of, locate_at, side_at, tick_at, level_there, readable, first_rung}
use Rattle.ladders.specs.Search.{on_side, side_after, quote_at, next_from}
use Rattle.ladders.specs.RungLaws.{tick_on, first_unread, first_late, found_here, side_after_lem, same_locate, same_side_lem}

-- the answer to what a side is asked by its letter is the rung's
pub asks : (b : List ℕ) (p locate byte tick : ℕ) (r : Result (Option Level) Refusal) → locate ≡ locate_at p → byte ≡ side_byte (side_at p) → tick ≡ tick_at p
    → r ≡ checked b byte (level_from b (words_of (length b)) locate (side_of byte) tick) → r ≡ quote_at b p
unfolding quote_at
asks b p locate byte tick r l y s e = rw (l, y, s) at e ∙ rw (side_back (side_at p))

-- ---- what an answer says

-- of whether the book can be read, of whether an order stands, and of the level that stands then
abbrev Says : Bool → Bool → Level → Result (Option Level) Refusal → Type 0
Says r v l (Err x) = r ≡ false
Says r v l (Ok None) = (r ≡ true) × (v ≡ false)
Says r v l (Ok (Some x)) = (r ≡ true) × (v ≡ true) × (x ≡ l)

says : (t u v : Bool) (l : Level)
    → Says (cond t false u) v l (cond t (no_quote Shape) (cond u (cond v (Ok (Some l)) (Ok None)) (no_quote Book)))
says true u v l = refl
says false false v l = refl
says false true true l = (refl, refl, refl)
says false true false l = (refl, refl)

module _ (b : List ℕ) (p : ℕ) where
  abbrev level_on : Level
  level_on = level_at b (words_of (length b)) (locate_at p) (side_at p) (price_at (side_at p) (tick_on b p))

  quote_says : (x : Result (Option Level) Refusal) → quote_at b p ≡ x → Says (readable b) (ltb (tick_on b p) all_prices) level_on x
  unfolding quote_at readable
  quote_says x e =
      let k = words_of (length b) in
      subst (Says (cond (eqb k 0) false (eqb (total unsoundness b k) 0)) (ltb (tick_on b p) all_prices) level_on) e
      (rw (byte-good (side_at p), from_first) (says (eqb k 0) (eqb (total unsoundness b k) 0) (ltb (tick_on b p) all_prices) level_on))

-- ---- the search

module _ (b : List ℕ) (from to : ℕ) where
  no_next : to ≤ first_rung b from to → None ≡ next_from b from to
  unfolding next_from
  no_next l = rw (le-ltb (first_rung b from to) to l)

  some_next : first_rung b from to < to → Some (first_rung b from to, level_there b (words_of (length b)) (first_rung b from to)) ≡ next_from b from to
  unfolding next_from
  some_next l = rw (lt-ltb (first_rung b from to) to l)

  -- past the end
  pub search_done : to ≤ from → None ≡ next_from b from to
  search_done h = no_next (⊎_elim (λ l. omega (arith, first_late b from to l)) (λ l. l) (lt-or-le (first_rung b from to) to))

  pub search_refused : (x : Refusal) → quote_at b from ≡ Err x → None ≡ next_from b from to
  search_refused x e = no_next (omega (arith, first_unread b from to (quote_says b from (Err x) e)))

  -- nothing on the rest of the side: the search goes on at the next one
  pub search_on : quote_at b from ≡ (Ok None) → next_from b (side_after from) to ≡ next_from b from to
  unfolding next_from
  search_on e =
      let s = quote_says b from (Ok None) e in
      rw (side_after_lem b from to s.0 (ltb-false (tick_on b from) all_prices s.1))

-- a level stands: its rung is that of its price, below the end since the end is where a stock's rungs begin
pub search_found : (b : List ℕ) (from to n rung : ℕ) (l : Level) → to ≡ first_of n → from < to → quote_at b from ≡ Ok (Some l)
    → rung ≡ on_side from (ticks_to (side_at from) l.price) → Some (rung, l) ≡ next_from b from to
unfolding level_at
search_found b from to n rung l stock h e at =
    let k = words_of (length b) in
    let s = quote_says b from (Ok (Some l)) e in
    let i = tick_on b from in
    let m : i < all_prices = ltb-true i all_prices s.1 in
    let price : l.price ≡ price_at (side_at from) i = ap (λ (x : Level). x.price) s.2 in
    let ticks : ticks_to (side_at from) l.price ≡ i = ap (ticks_to (side_at from)) price ∙ ticks_price (side_at from) i m in
    let here : rung ≡ on_side from i = omega arith in
    let same : rung / all_prices ≡ from / all_prices = omega arith in
    let small : on_side from i < to = omega arith in
    let first : first_rung b from to ≡ rung = found_here b from to s.0 m small ∙ sym here in
    let at_tick : tick_at rung ≡ i = omega arith in
    let there : level_there b k rung ≡ l = rw (same_locate from rung same, same_side_lem from rung same, at_tick) (sym s.2) in
    rw (first, there) at (some_next b from to (omega arith))
