-- What reading has already made sure of in what a message asks. Assumes nothing.
use Rattle.std.specs.Prelude.{◌≡◌, ◌≢◌, true, List, ℕ, ◌≤◌, ◌<◌, get_or}
use Rattle.kinds.specs.Admission.{maximum}
use Rattle.text.specs.Text.{text}
use Rattle.orders.specs.declared.Order.{Order}
use Rattle.steps.specs.Asked.{Asked, register, start, take, close, replace, nothing}

-- every number of a list of bytes is one
abbrev pub Bytes : List ℕ → Type 0
Bytes s = (i : ℕ) → get_or s i 0 < 256

-- an order as a message may start it
pub record Starts (o : Order) : Type 0 where
  pub price : o.price.0 ≤ maximum
  pub some : 1 ≤ o.added
  pub added : o.added < 4294967296
  pub executed : o.executed ≡ 0
  pub cancelled : o.cancelled ≡ 0
  pub closed : o.closed ≡ 0
  pub locate : o.locate.0 < 65536
  pub reference : o.reference.0 < 18446744073709551616
  pub attribution : o.attribution < 4294967296
  pub worded : text 4 o.attribution ≡ true

-- a symbol: a text of eight bytes, and so not 0
pub record Symbolic (symbol : ℕ) : Type 0 where
  pub worded : text 8 symbol ≡ true
  pub some : symbol ≢ 0
  pub fits : symbol < 18446744073709551616

abbrev pub Lawful : Asked → Type 0
Lawful (register l symbol) = (l < 65536) × Symbolic symbol
Lawful (start o symbol) = Starts o × Symbolic symbol
Lawful (take how r l n) = (1 ≤ n) × (n < 4294967296)
Lawful (close r l) = Unit {0}
Lawful (replace original new l n p) = (1 ≤ n) × (n < 4294967296) × (p ≤ maximum) × (new < 18446744073709551616)
Lawful nothing = Unit {0}
