-- Where the Stock fields stand, to be held against 000: the table gives exactly these, by one computed test over all its rows.
-- Assumes nothing.
use Rattle.std.specs.Prelude.{◌≡◌, refl, Bool, true, false, cond, ◌&&◌, ◌||◌, List, [], ◌∷◌, ℕ, ◌+◌, ◌≤◌, eqb, leb}
use Rattle.std.proofs.Common.{sym, ap, ◌∙◌, arith, eqb-true, leb-true, ne_eqb}
use Rattle.std.proofs.lemmas.Bool.{false≢true}
use Rattle.laws.specs.Bools.{and_left, and_right}
use Rattle.layout.specs.Layout.{Row, rows, cells_in, cells_of, last_end, length_of}
use Rattle.layout.specs.Chained.{each_type}
use Rattle.symbol.specs.Symbol.{stock_in, stock_at}

-- a type byte, and where its Stock field starts
pub record Stock : Type 0 where
  pub letter : ℕ
  pub offset : ℕ

abbrev pub stock : ℕ → ℕ → Stock
stock t n = record { letter = t; offset = n }

-- R, H, Y; L; K, J, h; A, F, P; Q; I; N, O
abbrev pub stocks : List Stock
stocks =
    stock 82 11 ∷ stock 72 11 ∷ stock 89 11 ∷ stock 76 15 ∷ stock 75 11 ∷ stock 74 11 ∷ stock 104 11 ∷ stock 65 24 ∷ stock 70 24
    ∷ stock 80 24 ∷ stock 81 19 ∷ stock 73 28 ∷ stock 78 11 ∷ stock 79 11 ∷ []

-- where the Stock field of the type t starts by this list; 0 where t is not in it
abbrev pub stock_for : List Stock → ℕ → ℕ
stock_for [] t = 0
stock_for (p ∷ ps) t = cond (eqb t p.letter) p.offset (stock_for ps t)

-- a row without a Stock field is not in the list
abbrev lacks : Row → List Stock → Bool
lacks r ps = eqb (stock_in r.cells) 0 && eqb (stock_for ps r.letter) 0

-- each row is the next in the list, or is not in it
abbrev agree : List Row → List Stock → Bool
agree [] [] = true
agree [] (p ∷ ps) = false
agree (r ∷ rs) [] = lacks r [] && agree rs []
agree (r ∷ rs) (p ∷ ps) =
    cond (eqb r.letter p.letter) (eqb (stock_in r.cells) p.offset && agree rs ps) (lacks r (p ∷ ps) && agree rs (p ∷ ps))

module _ (t : ℕ) (r : Row) (rs : List Row) where
  pass : (ps : List Stock) → lacks r ps ≡ true → stock_in (cells_in rs t) ≡ stock_for ps t → stock_in (cells_in (r ∷ rs) t) ≡ stock_for ps t
  pass ps e h = go (eqb t r.letter) refl
    where
      go : (b : Bool) → eqb t r.letter ≡ b → stock_in (cond b r.cells (cells_in rs t)) ≡ stock_for ps t
      go true q =
          eqb-true _ _ (and_left (eqb (stock_in r.cells) 0) (eqb (stock_for ps r.letter) 0) e)
          ∙ sym (eqb-true _ _ (and_right (eqb (stock_in r.cells) 0) (eqb (stock_for ps r.letter) 0) e))
          ∙ ap (stock_for ps) (sym (eqb-true t r.letter q))
      go false q = h

  meet : (p : Stock) (ps : List Stock) → r.letter ≡ p.letter → stock_in r.cells ≡ p.offset → stock_in (cells_in rs t) ≡ stock_for ps t
      → stock_in (cells_in (r ∷ rs) t) ≡ stock_for (p ∷ ps) t
  meet p ps e f h = rw e (go (eqb t p.letter))
    where
      go : (b : Bool) → stock_in (cond b r.cells (cells_in rs t)) ≡ cond b p.offset (stock_for ps t)
      go true = f
      go false = h

at_type : (t : ℕ) (rs : List Row) (ps : List Stock) → agree rs ps ≡ true → stock_in (cells_in rs t) ≡ stock_for ps t
at_type t [] [] e = refl
at_type t [] (p ∷ ps) e = absurd (false≢true e)
at_type t (r ∷ rs) [] e =
    pass t r rs [] (and_left (lacks r []) (agree rs []) e) (at_type t rs [] (and_right (lacks r []) (agree rs []) e))
at_type t (r ∷ rs) (p ∷ ps) e = go (eqb r.letter p.letter) refl e (at_type t rs ps) (at_type t rs (p ∷ ps))
  where
    same : Bool
    same = eqb (stock_in r.cells) p.offset

    go : (b : Bool) → eqb r.letter p.letter ≡ b → cond b (same && agree rs ps) (lacks r (p ∷ ps) && agree rs (p ∷ ps)) ≡ true
        → (agree rs ps ≡ true → stock_in (cells_in rs t) ≡ stock_for ps t)
        → (agree rs (p ∷ ps) ≡ true → stock_in (cells_in rs t) ≡ stock_for (p ∷ ps) t)
        → stock_in (cells_in (r ∷ rs) t) ≡ stock_for (p ∷ ps) t
    go true q e f g =
        meet t r rs p ps (eqb-true _ _ q) (eqb-true _ _ (and_left same (agree rs ps) e)) (f (and_right same (agree rs ps) e))
    go false q e f g =
        pass t r rs (p ∷ ps) (and_left (lacks r (p ∷ ps)) (agree rs (p ∷ ps)) e) (g (and_right (lacks r (p ∷ ps)) (agree rs (p ∷ ps)) e))

-- the Stock field of each type starts where it is printed, and no other type or byte has one
pub stocks-printed : (t : ℕ) → stock_at t ≡ stock_for stocks t
unfolding stock_at
stocks-printed t = at_type t rows stocks refl

fits_or_none : (n m : ℕ) → eqb n 0 || leb (n + 8) m ≡ true → 1 ≤ n → n + 8 ≤ m
fits_or_none n m e l = leb-true (n + 8) m (rw (ne_eqb n 0 (λ z. omega arith)) at e)

-- a Stock field lies inside the message
pub stock_fits : (t : ℕ) → 1 ≤ stock_at t → stock_at t + 8 ≤ length_of t
unfolding stock_at length_of
stock_fits t l =
    fits_or_none (stock_in (cells_of t)) (last_end 0 (cells_of t))
    (each_type (λ cs. eqb (stock_in cs) 0 || leb (stock_in cs + 8) (last_end 0 cs)) refl refl t) l
