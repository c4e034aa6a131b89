-- THE DEFINITION of the symbol question (01, 'What the desk may ask', the last): the unpadded symbol is a part of the message. It is
-- the empty part unless the directory's length is right and the message is well formed, has a Stock field, and its locate (from 1)
-- is registered with that symbol. A part is said by its place: where in the message it starts, and how long it is. Assumes nothing.
use Rattle.std.specs.Prelude.{ℕ, zero, suc, ◌+◌, ◌/◌, ◌%◌, ◌≡◌, Bool, true, false, cond, ◌&&◌, List, [], ◌∷◌, eqb, leb, length, take, drop, Result, Ok, Err}
use Rattle.std.specs.Borrow.{Bor}
use Rattle.laws.specs.Field.{field}
use Rattle.layout.specs.Kind.{Kind, Cell}
use Rattle.layout.specs.Kind.Kind.{number, time, shares, price4, price8, texts, side, printable, code, alpha, reserved}
use Rattle.layout.specs.Layout.{cells_of}
use Rattle.reader.specs.Read.{type_of, answer}
use Rattle.directory.specs.Directory.{good_length, entry_at, is_symbol}
use Rattle.symbol.specs.declared.Part.{Part}
use Rattle.messages.specs.declared.Message.{Message}
use Rattle.refusals.specs.declared.Refusal.{Refusal}

abbrev pub is_text : Kind → Bool
is_text texts = true
is_text number = false
is_text time = false
is_text shares = false
is_text price4 = false
is_text price8 = false
is_text side = false
is_text printable = false
is_text code = false
is_text alpha = false
is_text reserved = false

-- a Stock field: a text of 8 bytes (an MPID or an Attribution has 4)
abbrev pub is_stock : Cell → Bool
is_stock c = is_text c.kind && eqb c.width 8

-- where the Stock field of these fields starts; 0 where there is none, for byte 0 is the type's
abbrev pub stock_in : List Cell → ℕ
stock_in [] = 0
stock_in (c ∷ cs) = cond (is_stock c) c.offset (stock_in cs)

-- where the Stock field of the type t starts: Stocks.antt proves that it is as 000 prints it
unfoldable pub stock_at : ℕ → ℕ
stock_at t = stock_in (cells_of t)

-- the message's locate, and its Stock field as a number
abbrev pub locate_of : List ℕ → ℕ
locate_of s = field s 1 2

abbrev pub stock_of : List ℕ → ℕ
stock_of s = field s (stock_at (type_of s)) 8

abbrev pub is_good : Result Message Refusal → Bool
is_good (Ok m) = true
is_good (Err r) = false

-- the directory's length is right and the message is well formed, has a Stock field, and its locate is registered with that symbol
unfoldable pub is_named : List ℕ → List ℕ → Bool
is_named d s =
    good_length (length d) && (is_good (answer s) && (leb 1 (stock_at (type_of s)) && is_symbol (stock_of s) (entry_at d (locate_of s))))

-- how many of the w bytes of v stand before the spaces at their end
unfoldable pub unpadded : ℕ → ℕ → ℕ
unpadded zero v = 0
unpadded (suc w) v = cond (eqb (v % 256) 32) (unpadded w (v / 256)) (suc w)

abbrev pub empty_part : Part
empty_part = record { start = 0; len = 0 }

unfoldable pub symbol_part : List ℕ → List ℕ → Part
symbol_part d s = cond (is_named d s) (record { start = stock_at (type_of s); len = unpadded 8 (stock_of s) }) empty_part

-- the lent slice r is the part p of the lent slice m: it points p .start bytes into m, and has the p.len bytes from there on
pub record IsPart (m : Bor (List ℕ)) (p : Part) (r : Bor (List ℕ)) : Type 0 where
  pub place : r.ref_ptr ≡ (m.ref_ptr.0, p.start + m.ref_ptr.1)
  pub bytes : r.now ≡ take p.len (drop p.start m.now)
