-- When each answer to a message is given, in 01's words ('When the book says no', 0 to 6): this is what Exactly.antt proves of
-- the answer to any bytes. A field is a cell of the table of fields, and `good` tests what it must hold. Assumes nothing.
use Rattle.std.specs.Prelude.{◌≡◌, ◌↔◌, ◌⊎◌, true, false, ℕ, ◌≤◌, ◌<◌, length, replicate, Result, Ok}
use mathlib.Core.List.{List, [], ◌∷◌, Memᴰ as Among}
use Rattle.text.specs.TextMeaning.{LettersThenSpaces}
use Rattle.layout.specs.Kind.{Kind, Cell}
use Rattle.layout.specs.Kind.Kind.{number, time, shares, price4, price8, texts, side, printable, code, alpha, reserved}
use Rattle.layout.specs.Layout.{cells_of, length_of}
use Rattle.layout.specs.Chained.{Printed, printed}
use Rattle.messages.specs.Numbers.{numbers}
use Rattle.messages.specs.Typed.{message}
use Rattle.wellformed.specs.WellFormed.{good, earns, value_at, values}
use Rattle.reader.specs.Read.{type_of, answer}
use Rattle.numbers.specs.Shown.{padded, answer_number as number_of, answer_row}
use Rattle.messages.specs.declared.Message.{Message}
use Rattle.refusals.specs.declared.Refusal.{Refusal}

-- t is one of the 23 letters that 01 prints; Types.antt proves that it is one exactly where it has a length
pub record IsPrinted (t : ℕ) : Type 0 where
  pub entry : Printed
  pub among : Among entry printed
  pub same : t ≡ entry.letter

-- the first byte is one of the 23 types
abbrev pub Known : List ℕ → Type 0
Known s = length_of (type_of s) ≡ 0 → ⊥

-- the first byte is one of the 23 types, and the length is that type's
pub record RightLength (s : List ℕ) : Type 0 where
  pub known : Known s
  pub sized : length s ≡ length_of (type_of s)

-- 1, LENGTH: no bytes, or not the type's length
abbrev pub WrongLength : List ℕ → Type 0
WrongLength s = (length s ≡ 0) ⊎ (Known s × (length s ≡ length_of (type_of s) → ⊥))

-- 2, TYPE: the first byte is none of the 23
abbrev pub WrongType : List ℕ → Type 0
WrongType s = (length s ≡ 0 → ⊥) × (length_of (type_of s) ≡ 0)

-- what a field of w bytes that reads as v must hold, by its kind ('What a well-formed message holds'); Means.antt proves that
-- `good` is the test of it
abbrev pub Means : Kind → ℕ → ℕ → Type 0
Means number w v = Unit {0}
Means time w v = v < 86400000000000
Means shares w v = 1 ≤ v
Means price4 w v = v ≤ 2000000000
Means price8 w v = Unit {0}
Means texts w v = (k : ℕ) × LettersThenSpaces w v k
Means side w v = (v ≡ 66) ⊎ (v ≡ 83)
Means printable w v = (v ≡ 89) ⊎ (v ≡ 78)
Means code w v = Unit {0}
Means alpha w v = Unit {0}
Means reserved w v = Unit {0}

-- one of the fields cs earns the refusal n: it is not well formed
pub record AtFault (s : List ℕ) (cs : List Cell) (n : ℕ) : Type 0 where
  pub cell : Cell
  pub among : Among cell cs
  pub earned : earns cell.kind ≡ n
  pub bad : good cell.kind cell.width (value_at s cell) ≡ false

-- n is the first refusal that a field earns, in the order of the checks, which is that of their numbers (no field earns one below 3)
pub record FirstFault (s : List ℕ) (cs : List Cell) (n : ℕ) : Type 0 where
  pub fault : AtFault s cs n
  pub before : (m : ℕ) → m < n → AtFault s cs m → ⊥

-- every field is well formed
abbrev pub AllGood : List ℕ → List Cell → Type 0
AllGood s cs = (c : Cell) → Among c cs → good c.kind c.width (value_at s c) ≡ true

-- 3 to 6, TIME, FIELD, PRICE, SHARES: of the type's length, and n is the first refusal that a field of the type earns
abbrev pub Earns : ℕ → List ℕ → Type 0
Earns n s = RightLength s × FirstFault s (cells_of (type_of s)) n

-- 0, accepted: of the type's length, and every field of the type is well formed
abbrev pub Accepted : List ℕ → Type 0
Accepted s = RightLength s × AllGood s (cells_of (type_of s))

-- each number is given exactly when 01 says so, and no other number is
pub record ReadExactly (s : List ℕ) : Type 0 where
  pub done : number_of (answer s) ≡ 0 ↔ Accepted s
  pub wrong-length : number_of (answer s) ≡ 1 ↔ WrongLength s
  pub wrong_type : number_of (answer s) ≡ 2 ↔ WrongType s
  pub time : number_of (answer s) ≡ 3 ↔ Earns 3 s
  pub field : number_of (answer s) ≡ 4 ↔ Earns 4 s
  pub price : number_of (answer s) ≡ 5 ↔ Earns 5 s
  pub shares : number_of (answer s) ≡ 6 ↔ Earns 6 s
  pub no_other : number_of (answer s) ≤ 6

-- the answer to bytes that are accepted: the typed message, and as numbers the type byte and every field of the table
pub record Fields (s : List ℕ) : Type 0 where
  pub typed : answer s ≡ Ok (message (type_of s) (values s (cells_of (type_of s))))
  pub listed : numbers (answer s) ≡ 0 ∷ type_of s ∷ values s (cells_of (type_of s))
  pub in_a_row : answer_row (answer s) ≡ padded 18 (type_of s ∷ values s (cells_of (type_of s)))

-- 'A refusal returns its number with all other numbers 0'
pub record Alone (a : Result Message Refusal) : Type 0 where
  pub listed : numbers a ≡ number_of a ∷ []
  pub in_a_row : answer_row a ≡ replicate 18 0
