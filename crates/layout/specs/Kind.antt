-- What kind of thing a field holds, as document 000 says it, and a field's place. Assumes nothing.
use Rattle.std.specs.Prelude.{ℕ, ◌+◌}

pub data Kind : Type 0 where
  -- an Integer that any value may have
  number : Kind
  -- the Timestamp: nanoseconds since midnight
  time : Kind
  -- an Integer of shares that must be at least 1
  shares : Kind
  -- a Price with 4 decimal places, and one with 8
  price4 price8 : Kind
  -- a Stock, an MPID or an Attribution
  texts : Kind
  -- the Buy/Sell Indicator, and Printable
  side printable : Kind
  -- one letter of a list that 000 prints whole
  code : Kind
  -- letters of a list that changes often: reason codes, issue classification, issue sub type
  alpha : Kind
  reserved : Kind

-- a field: where it starts, how many bytes it takes, and what it holds
pub record Cell : Type 0 where
  pub offset : ℕ
  pub width : ℕ
  pub kind : Kind

abbrev pub cell : Kind → ℕ → ℕ → Cell
cell k at w = record { offset = at; width = w; kind = k }

-- where the next field starts
abbrev pub end : Cell → ℕ
end c = c.offset + c.width
