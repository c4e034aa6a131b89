-- What a well-formed message holds, and the refusal that any other earns (01, 'What a well-formed message holds', 'When the
-- book says no', 3 to 6): each field is judged by its kind and the number it reads as, and the checks go TIME, FIELD, PRICE,
-- SHARES, whatever order the fields stand in. Assumes nothing.
use Rattle.std.specs.Prelude.{ℕ, Bool, true, false, cond, not, ◌&&◌, ◌||◌, List, [], ◌∷◌, eqb, leb, ltb}
use Rattle.laws.specs.Field.{field}
use Rattle.refusals.specs.Refusals.{FIELD, PRICE, SHARES, TIME}
use Rattle.kinds.specs.Admission.{maximum}
use Rattle.kinds.specs.Sides.{good_side}
use Rattle.text.specs.Text.{text}
use Rattle.layout.specs.Kind.{Kind, Cell}
use Rattle.layout.specs.Kind.Kind.{number, time, shares, price4, price8, texts, side, printable, code, alpha, reserved}

-- below a day of nanoseconds
unfoldable pub good_time : ℕ → Bool
good_time v = ltb v 86400000000000

unfoldable pub good_shares : ℕ → Bool
good_shares v = leb 1 v

unfoldable pub good_price : ℕ → Bool
good_price v = leb v maximum

-- Y or N
unfoldable pub good_printable : ℕ → Bool
good_printable v = eqb v 89 || eqb v 78

-- whether the number v is well formed in a field of this kind and of w bytes
abbrev pub good : Kind → ℕ → ℕ → Bool
good number w v = true
good time w v = good_time v
good shares w v = good_shares v
good price4 w v = good_price v
good price8 w v = true
good texts w v = text w v
good side w v = good_side v
good printable w v = good_printable v
good code w v = true
good alpha w v = true
good reserved w v = true

-- the refusal that a field of this kind earns where it is not well formed
abbrev pub earns : Kind → ℕ
earns number = 0
earns time = TIME
earns shares = SHARES
earns price4 = PRICE
earns price8 = 0
earns texts = FIELD
earns side = FIELD
earns printable = FIELD
earns code = 0
earns alpha = 0
earns reserved = 0

-- the number that a field reads as
abbrev pub value_at : List ℕ → Cell → ℕ
value_at s c = field s c.offset c.width

-- the field c of the bytes s earns the refusal n
abbrev pub wrong : ℕ → List ℕ → Cell → Bool
wrong n s c = eqb (earns c.kind) n && not (good c.kind c.width (value_at s c))

-- some field earns the refusal n
abbrev pub faulty : ℕ → List ℕ → List Cell → Bool
faulty n s [] = false
faulty n s (c ∷ cs) = wrong n s c || faulty n s cs

-- the refusal of a message with these fields, in the order of the checks; 0 where it is well formed
unfoldable pub refusal : List ℕ → List Cell → ℕ
refusal s cs = cond (faulty TIME s cs) TIME (cond (faulty FIELD s cs) FIELD (cond (faulty PRICE s cs) PRICE (cond (faulty SHARES s cs) SHARES 0)))

-- the numbers of the fields, in their order
abbrev pub values : List ℕ → List Cell → List ℕ
values s [] = []
values s (c ∷ cs) = value_at s c ∷ values s cs
