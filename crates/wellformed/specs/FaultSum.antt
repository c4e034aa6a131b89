-- How the code finds the refusal: each field that is not well formed counts by the refusal it earns, 512, 16, 2 or 1,
-- and these are added up. Each is more than all those after it together, so the sum shows the first check that fails.
-- `faults_show` proves it for every type, by one computed test over the table of fields. Assumes nothing.
use Rattle.std.specs.Prelude.{ℕ, ◌+◌, ◌*◌, cond, List, [], ◌∷◌, leb}
use Rattle.laws.specs.Bools.{fault}
use Rattle.refusals.specs.Refusals.{FIELD, PRICE, SHARES, TIME}
use Rattle.kinds.specs.Admission.{maximum}
use Rattle.kinds.specs.Sides.{side_byte, side_of}
use Rattle.layout.specs.Kind.{Kind, Cell}
use Rattle.layout.specs.Kind.Kind.{number, time, shares, price4, price8, texts, side, printable, code, alpha, reserved}
use Rattle.wellformed.specs.WellFormed.{good, value_at}

abbrev pub unit : Kind → ℕ
unit number = 0
unit time = 512
unit shares = 1
unit price4 = 2
unit price8 = 0
unit texts = 16
unit side = 16
unit printable = 16
unit code = 0
unit alpha = 0
unit reserved = 0

abbrev pub fault_of : List ℕ → Cell → ℕ
fault_of s c = unit c.kind * fault (good c.kind c.width (value_at s c))

abbrev pub faults : List ℕ → List Cell → ℕ
faults s [] = 0
faults s (c ∷ cs) = fault_of s c + faults s cs

-- the refusal that a sum of faults shows
abbrev pub shows : ℕ → ℕ
shows w = cond (leb 512 w) TIME (cond (leb 16 w) FIELD (cond (leb 2 w) PRICE (cond (leb 1 w) SHARES 0)))

-- what the code has in hand of a field while it is not known to be well formed: a side that is Buy or Sell, a price that is one
unfoldable pub side_held : ℕ → ℕ
side_held v = side_byte (side_of v)

unfoldable pub price_held : ℕ → ℕ
price_held v = cond (leb v maximum) v 0

abbrev pub held_as : Kind → ℕ → ℕ
held_as number v = v
held_as time v = v
held_as shares v = v
held_as price4 v = price_held v
held_as price8 v = v
held_as texts v = v
held_as side v = side_held v
held_as printable v = v
held_as code v = v
held_as alpha v = v
held_as reserved v = v

abbrev pub held_values : List ℕ → List Cell → List ℕ
held_values s [] = []
held_values s (c ∷ cs) = held_as c.kind (value_at s c) ∷ held_values s cs
