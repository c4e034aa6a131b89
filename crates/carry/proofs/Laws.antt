-- What keeping comes to, case by case. Assumes nothing.
use mathlib.Core.Path.{◌≡◌, refl, ap}
use mathlib.Core.List.{List, ◌++◌}
use native.Mathlib.Omega.{arith}
use Prim.Native.Nat.{ℕ, ◌+◌, ◌-◌, ◌≤◌, ◌<◌}
use Rattle.std.specs.List.{copy_within}
use Rattle.carry.specs.Carry.{between, carried, kept_length}
use borrow.Author.Tests.{le-leb, lt-leb}
use lib.ListN.{length, drop}

-- what the library moves is what is kept
pub moved_within : (b : List ℕ) (from to : ℕ) → copy_within b from to 0 ≡ between b from to ++ drop (to - from) b
moved_within b from to = let e : 0 + (to - from) ≡ to - from = omega arith in ap (λ n. between b from to ++ drop n b) e

-- ---- what keeping comes to

-- what is answered and left
abbrev pub Keeps : List ℕ → ℕ → ℕ → List ℕ → ℕ → Type 0
Keeps b from to after r = (r ≡ kept_length b from to) × (after ≡ carried b from to)

pub keeps_there : (b : List ℕ) (from to : ℕ) (after : List ℕ) → from ≤ to → to ≤ length b
    → after ≡ between b from to ++ drop (to - from) b → Keeps b from to after (to - from)
unfolding carried kept_length
keeps_there b from to after l h e = (rw (le-leb from to l, le-leb to (length b) h) refl, rw (le-leb from to l, le-leb to (length b) h) e)

pub keeps_crossed : (b : List ℕ) (from to : ℕ) → to < from → Keeps b from to b to
unfolding carried kept_length
keeps_crossed b from to h = (rw (lt-leb from to h) refl, rw (lt-leb from to h) refl)

pub keeps_beyond : (b : List ℕ) (from to : ℕ) → from ≤ to → length b < to → Keeps b from to b to
unfolding carried kept_length
keeps_beyond b from to l h = (rw (le-leb from to l, lt-leb to (length b) h) refl, rw (le-leb from to l, lt-leb to (length b) h) refl)
