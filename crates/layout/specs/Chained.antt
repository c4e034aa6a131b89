-- That the table is sound, by computed tests over all its rows: the fields of each type start after the type byte and stand
-- one after the other without gap or overlap, and the lengths are those that 01 prints. `each_type` turns a test that
-- passes at every row into the fact at every type. Assumes nothing.
use Rattle.std.specs.Prelude.{◌≡◌, refl, Bool, true, false, cond, ◌&&◌, List, [], ◌∷◌, ℕ, ◌≤◌, eqb, leb, length}
use Rattle.std.proofs.lemmas.Bool.{false≢true}
use Rattle.std.proofs.Common.{eqb-true, leb-true}
use Rattle.laws.specs.Bools.{and_left, and_right}
use Rattle.layout.specs.Kind.{Cell, end}
use Rattle.layout.specs.Layout.{Row, rows, cells_in, cells_of, last_end, length_of}

-- the test f passes at every row
abbrev pub every : (List Cell → Bool) → List Row → Bool
every f [] = true
every f (r ∷ rs) = f r.cells && every f rs

each_in : (f : List Cell → Bool) → f [] ≡ true → (rs : List Row) → every f rs ≡ true → (t : ℕ) → f (cells_in rs t) ≡ true
each_in f none [] e t = none
each_in f none (r ∷ rs) e t = go (eqb t r.letter) (each_in f none rs (and_right (f r.cells) (every f rs) e) t)
  where
    go : (b : Bool) → f (cells_in rs t) ≡ true → f (cond b r.cells (cells_in rs t)) ≡ true
    go true rest = and_left (f r.cells) (every f rs) e
    go false rest = rest

-- what a test says of no field and of every row, it says of every type
pub each_type : (f : List Cell → Bool) → f [] ≡ true → every f rows ≡ true → (t : ℕ) → f (cells_of t) ≡ true
each_type f none e t = each_in f none rows e t

-- the fields start at n, each where the one before it ended, and each has 1 to 8 bytes
abbrev pub chained : ℕ → List Cell → Bool
chained n [] = true
chained n (c ∷ cs) = eqb c.offset n && (leb 1 c.width && (leb c.width 8 && chained (end c) cs))

-- the fields of each type stand one after the other from byte 1 on
pub fields_chained : (t : ℕ) → chained 1 (cells_of t) ≡ true
fields_chained t = each_type (chained 1) refl refl t

-- no type has more than 17 fields
pub fields_few : (t : ℕ) → length (cells_of t) ≤ 17
fields_few t = leb-true _ _ (each_type (λ cs. leb (length cs) 17) refl refl t)

-- a type byte, and how many bytes its messages have
pub record Printed : Type 0 where
  pub letter : ℕ
  pub bytes : ℕ

abbrev pub type : ℕ → ℕ → Printed
type t n = record { letter = t; bytes = n }

-- 01, 'Message lengths', column by column
abbrev pub printed : List Printed
printed =
    type 83 12 ∷ type 82 39 ∷ type 72 25 ∷ type 89 20 ∷ type 76 26 ∷ type 86 35 ∷ type 87 12 ∷ type 75 28
    ∷ type 74 35 ∷ type 104 21 ∷ type 65 36 ∷ type 70 40 ∷ type 69 31 ∷ type 67 36 ∷ type 88 23
    ∷ type 68 19 ∷ type 85 35 ∷ type 80 44 ∷ type 81 40 ∷ type 66 19 ∷ type 73 50 ∷ type 78 20 ∷ type 79 48 ∷ []

-- the length that is printed for the type t; 0 where none is
abbrev pub printed_for : List Printed → ℕ → ℕ
printed_for [] t = 0
printed_for (p ∷ ps) t = cond (eqb t p.letter) p.bytes (printed_for ps t)

-- each row has the letter and the length that are printed at its place
abbrev pub rows_agree : List Row → List Printed → Bool
rows_agree [] [] = true
rows_agree [] (p ∷ ps) = false
rows_agree (r ∷ rs) [] = false
rows_agree (r ∷ rs) (p ∷ ps) = eqb r.letter p.letter && (eqb (last_end 0 r.cells) p.bytes && rows_agree rs ps)

at_type : (rs : List Row) (ps : List Printed) → rows_agree rs ps ≡ true → (t : ℕ) → last_end 0 (cells_in rs t) ≡ printed_for ps t
at_type [] [] e t = refl
at_type [] (p ∷ ps) e t = absurd (false≢true e)
at_type (r ∷ rs) [] e t = absurd (false≢true e)
at_type (r ∷ rs) (p ∷ ps) e t =
    let long = eqb (last_end 0 r.cells) p.bytes in
    let tail : long && rows_agree rs ps ≡ true = and_right (eqb r.letter p.letter) (long && rows_agree rs ps) e in
    let same : r.letter ≡ p.letter = eqb-true _ _ (and_left (eqb r.letter p.letter) (long && rows_agree rs ps) e) in
    rw same (go (eqb t p.letter) (eqb-true _ _ (and_left long (rows_agree rs ps) tail)) (at_type rs ps (and_right long (rows_agree rs ps) tail) t))
  where
    go : (b : Bool) → last_end 0 r.cells ≡ p.bytes → last_end 0 (cells_in rs t) ≡ printed_for ps t → last_end 0 (cond b r.cells (cells_in rs t)) ≡ cond b p.bytes (printed_for ps t)
    go true x y = x
    go false x y = y

-- the length of each type is the one that 01 prints, and a byte that is no type has none
pub lengths_printed : (t : ℕ) → length_of t ≡ printed_for printed t
unfolding length_of
lengths_printed t = at_type rows printed refl t
