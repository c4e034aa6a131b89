-- What the symbol question answers, in 01's words: the place is where the Stock field's letters stand, followed by spaces to the
-- field's end, exactly where the directory and the message are as 01 asks; else it is the empty part. Assumes nothing.
use Rattle.std.specs.Prelude.{ℕ, ◌+◌, ◌≤◌, ◌<◌, ◌≡◌, refl, ◌↔◌, true, false, ◌&&◌, List, leb, length, get_or, Result, Some, Ok, Err}
use Rattle.std.proofs.Common.{ap, ⊎_elim, arith, eq-eqb, leb-true, le-leb}
use Rattle.std.proofs.lemmas.Bool.{false≢true}
use Rattle.laws.specs.Bools.{cases, and_left, and_right}
use Rattle.messages.specs.declared.Message.{Message}
use Rattle.reader.specs.Read.{type_of, answer}
use Rattle.directory.specs.Directory.{DirectoryLength, good_length, entry_at, is_symbol}
use Rattle.directory.specs.DirectoryLaws.{length_means, symbol_is}
use Rattle.symbol.specs.declared.Part.{Part}
use Rattle.symbol.specs.Symbol.{stock_at, locate_of, stock_of, is_good, is_named, unpadded, empty_part, symbol_part}
use Rattle.symbol.specs.Stocks.{stock_fits}
use Rattle.symbol.specs.Unpadded.{Unpadded, unpadded-le, unpadded_means}
use Rattle.symbol.specs.Formed.{formed, stock-text}
use Rattle.refusals.specs.declared.Refusal.{Refusal}

-- the directory's length is right, and the message is well formed, has a Stock field, and its locate is registered with that symbol
pub record Named (d s : List ℕ) : Type 0 where
  pub directory : DirectoryLength (length d)
  pub read : (m : Message) × (answer s ≡ Ok m)
  pub stock : 1 ≤ stock_at (type_of s)
  pub registered : entry_at d (locate_of s) ≡ Some (stock_of s)

-- the part p of the message s is its symbol: it starts where the Stock field starts, and of that field's 8 bytes, which lie inside the
-- message, the part's are letters, at least one, and all others are spaces
pub record Stands (s : List ℕ) (p : Part) : Type 0 where
  pub start : p.start ≡ stock_at (type_of s)
  pub field : p.start + 8 ≤ length s
  pub unpadded : Unpadded s p.start 8 p.len

-- ---- the tests

good-answer : (a : Result Message Refusal) → is_good a ≡ true → (m : Message) × (a ≡ Ok m)
good-answer (Ok m) e = (m, refl)
good-answer (Err r) e = absurd (false≢true e)

is_named_lem : (d s : List ℕ) → is_named d s ≡ true → Named d s
unfolding is_named
is_named_lem d s e =
    let good = is_good (answer s) in
    let stocked = leb 1 (stock_at (type_of s)) in
    let last = is_symbol (stock_of s) (entry_at d (locate_of s)) in
    let p = and_right (good_length (length d)) (good && (stocked && last)) e in
    let q = and_right good (stocked && last) p in
    record {
      directory = (length_means (length d)).0 (and_left (good_length (length d)) (good && (stocked && last)) e);
      read = good-answer (answer s) (and_left good (stocked && last) p);
      stock = leb-true 1 (stock_at (type_of s)) (and_left stocked last q);
      registered = symbol_is (stock_of s) (entry_at d (locate_of s)) (and_right stocked last q);
    }

named_is : (d s : List ℕ) → Named d s → is_named d s ≡ true
unfolding is_named
named_is d s n =
    rw ((length_means (length d)).1 n.directory, ap is_good n.read.1, le-leb 1 (stock_at (type_of s)) n.stock, n.registered)
    (eq-eqb (stock_of s) (stock_of s) refl)

-- the test that the definition makes says what 01 asks
pub named_means : (d s : List ℕ) → is_named d s ≡ true ↔ Named d s
named_means d s = (is_named_lem d s, named_is d s)

-- ---- the part

abbrev pub symbol_of : List ℕ → Part
symbol_of s = record { start = stock_at (type_of s); len = unpadded 8 (stock_of s) }

part_given : (d s : List ℕ) → is_named d s ≡ true → symbol_part d s ≡ symbol_of s
unfolding symbol_part
part_given d s e = rw e

part_empty : (d s : List ℕ) → is_named d s ≡ false → symbol_part d s ≡ empty_part
unfolding symbol_part
part_empty d s e = rw e

-- the field of a message that is well formed lies inside it
field_inside : (d s : List ℕ) → Named d s → stock_at (type_of s) + 8 ≤ length s
field_inside d s n =
    let z = (formed s (ap is_good n.read.1)).sized in
    let h = stock_fits (type_of s) n.stock in
    omega arith

-- the part lies inside the message
pub part_inside : (d s : List ℕ) → (symbol_part d s).start + (symbol_part d s).len ≤ length s
part_inside d s = ⊎_elim given empty (cases (is_named d s))
  where
    given : is_named d s ≡ true → (symbol_part d s).start + (symbol_part d s).len ≤ length s
    given e = rw (part_given d s e) (omega (arith, field_inside d s ((named_means d s).0 e), unpadded-le 8 (stock_of s)))

    empty : is_named d s ≡ false → (symbol_part d s).start + (symbol_part d s).len ≤ length s
    empty e = rw (part_empty d s e) (omega arith)

pub record SymbolMeans (d s : List ℕ) (p : Part) : Type 0 where
  -- the part has a byte exactly where 01 says that it is not the empty part
  pub given : 1 ≤ p.len ↔ Named d s
  pub symbol : Named d s → Stands s p
  pub empty : (Named d s → ⊥) → p ≡ empty_part
  pub inside : p.start + p.len ≤ length s

module _ (d s : List ℕ) (bytes : (i : ℕ) → get_or s i 0 < 256) where
  stands : Named d s → Stands s (symbol_part d s)
  stands n =
      let f = formed s (ap is_good n.read.1) in
      rw (part_given d s ((named_means d s).1 n))
      (record {
        start = refl;
        field = field_inside d s n;
        unpadded = unpadded_means s (stock_at (type_of s)) bytes 8 (stock-text s f n.stock);
      })

  none : (Named d s → ⊥) → symbol_part d s ≡ empty_part
  none h = ⊎_elim (λ e. absurd (h ((named_means d s).0 e))) (part_empty d s) (cases (is_named d s))

  some : 1 ≤ (symbol_part d s).len → Named d s
  some l = ⊎_elim (named_means d s).0 (λ e. let z = ap (λ (p : Part). p.len) (part_empty d s e) in absurd (omega arith)) (cases (is_named d s))

  -- of any directory and any bytes, the part is what 01 says
  pub symbol_means : SymbolMeans d s (symbol_part d s)
  symbol_means =
      record { given = (some, λ n. (stands n).unpadded.some); symbol = stands; empty = none; inside = part_inside d s }
