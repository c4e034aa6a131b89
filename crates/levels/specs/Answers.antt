-- From what asking came to, to the answers of the questions: the level of a price, and the first level from a tick on.
-- Assumes nothing.
use Rattle.std.specs.Prelude.{◌≡◌, ℕ, ◌+◌, ◌<◌, ◌≤◌, List, length, Some, None, Ok, Err}
use Rattle.std.proofs.Math.Path.{refl}
use Rattle.std.proofs.Common.{le_refl, arith}
use borrow.Author.Tests.{lt-ltb, le-ltb}
use Rattle.kinds.specs.declared.Locate.{Locate}
use Rattle.kinds.specs.declared.Side.{Side}
use Rattle.refusals.specs.declared.Refusal.{Refusal}
use Rattle.kinds.specs.Sides.{side_of}
use Rattle.book.specs.Book.{words_of}
use Rattle.levels.specs.declared.Wanted.{Wanted}
use Rattle.levels.specs.declared.Best.{Best}
use Rattle.levels.specs.Levels.{level_at, all_prices, checked, level_of}
use Rattle.levels.specs.Ticks.{price_at, ticks_to, first_tick, level_from}
use Rattle.levels.specs.TickLaws.{from_first}
use Rattle.levels.specs.Seen.{one_tick}
use Rattle.levels.specs.Asks.{scanned, ask_refused, ask_answered}

-- ---- the level of a price

-- the orders at one tick alone
abbrev pub at_tick : Locate → Side → ℕ → Wanted
at_tick locate side from = record { locate = locate; side = side; from = from; to = from + 1 }

module _ (b : List ℕ) (locate : Locate) (byte price from : ℕ) (side : Side) (s : side ≡ side_of byte) (f : from ≡ ticks_to side price) (l : from < all_prices) where
  pub level_refused : (x : Refusal) → scanned (at_tick locate side from) b byte ≡ Err x → Err x ≡ level_of b locate.0 byte price
  unfolding level_of
  level_refused x e = ask_refused (at_tick locate side from) b byte (omega arith) x _ e

  pub level_answered : price < all_prices → (x : Best) → scanned (at_tick locate side from) b byte ≡ Ok x
      → (Ok (Some (record { price = price; shares = x.shares; orders = x.orders }))) ≡ level_of b locate.0 byte price
  unfolding level_of level_at
  level_answered p x e =
      let a = ask_answered (at_tick locate side from) b byte (omega arith) x e in
      let o = one_tick (at_tick locate side from) b (words_of (length b)) price p f refl in
      rw (a.1, o.0, o.1, ← s, a.0)

-- ---- the first level from a tick on

abbrev pub from_tick : Locate → Side → ℕ → Wanted
from_tick locate side from = record { locate = locate; side = side; from = from; to = all_prices }

module _ (b : List ℕ) (locate : Locate) (byte from : ℕ) (side : Side) (s : side ≡ side_of byte) where
  pub first_refused : (x : Refusal) → scanned (from_tick locate side from) b byte ≡ Err x
      → Err x ≡ checked b byte (level_from b (words_of (length b)) locate.0 (side_of byte) from)
  first_refused x e = ask_refused (from_tick locate side from) b byte (le_refl all_prices) x _ e

  module _ (x : Best) (e : scanned (from_tick locate side from) b byte ≡ Ok x) where
    pub first_none : all_prices ≤ x.ticks → (Ok None) ≡ checked b byte (level_from b (words_of (length b)) locate.0 (side_of byte) from)
    first_none h =
        let n = first_tick b (words_of (length b)) locate.0 side from all_prices in
        let a = ask_answered (from_tick locate side from) b byte (le_refl all_prices) x e in
        rw (← s, a.0, from_first, le-ltb n all_prices (rw a.1 at h))

    pub first_some : x.ticks < all_prices → (price : ℕ) → price ≡ price_at side x.ticks
        → Ok (Some (record { price = price; shares = x.shares; orders = x.orders }))
        ≡ checked b byte (level_from b (words_of (length b)) locate.0 (side_of byte) from)
    unfolding level_at
    first_some h price p =
        let n = first_tick b (words_of (length b)) locate.0 side from all_prices in
        let a = ask_answered (from_tick locate side from) b byte (le_refl all_prices) x e in
        rw (p, a.1, ← s, a.0, from_first, lt-ltb n all_prices (rw a.1 at h))
