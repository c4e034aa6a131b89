-- A book that a call is lent to change is the same one afterwards: only what its numbers are may differ. Assumes nothing.
use Rattle.std.specs.Prelude.{◌≡◌}
use Rattle.book.specs.declared.BookMut.{BookMut}

-- the second is the first, as it was handed back
abbrev pub SameBook : BookMut → BookMut → Type 0
SameBook b b' = (b'.numbers.ghost_name ≡ b.numbers.ghost_name) × (b'.k ≡ b.k)
