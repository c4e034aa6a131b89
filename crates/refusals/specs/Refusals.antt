-- The refusals by name (01, 'When the book says no'), and their numbers. Assumes nothing.
use Rattle.std.specs.Prelude.{ℕ, cond, eqb, ◌≡◌, ◌≢◌, refl}
use Rattle.std.proofs.Common.{sym, ap, ◌∙◌, arith}
use Rattle.refusals.specs.declared.Refusal.{Refusal}
use Rattle.refusals.specs.declared.Refusal.TheVariants.{Length, «Type», Time, Field, Price, Shares, Stock, Conflict, Duplicate, NoOrder, Over, Full, Book, Shape}

abbrev pub LENGTH : ℕ
LENGTH = 1

abbrev pub TYPE : ℕ
TYPE = 2

abbrev pub TIME : ℕ
TIME = 3

abbrev pub FIELD : ℕ
FIELD = 4

abbrev pub PRICE : ℕ
PRICE = 5

abbrev pub SHARES : ℕ
SHARES = 6

abbrev pub STOCK : ℕ
STOCK = 7

abbrev pub CONFLICT : ℕ
CONFLICT = 8

abbrev pub DUPLICATE : ℕ
DUPLICATE = 9

abbrev pub NO_ORDER : ℕ
NO_ORDER = 10

abbrev pub OVER : ℕ
OVER = 11

abbrev pub FULL : ℕ
FULL = 12

abbrev pub BOOK : ℕ
BOOK = 13

abbrev pub SHAPE : ℕ
SHAPE = 14

-- the number of a refusal
abbrev pub refusal_number : Refusal → ℕ
refusal_number Length = LENGTH
refusal_number «Type» = TYPE
refusal_number Time = TIME
refusal_number Field = FIELD
refusal_number Price = PRICE
refusal_number Shares = SHARES
refusal_number Stock = STOCK
refusal_number Conflict = CONFLICT
refusal_number Duplicate = DUPLICATE
refusal_number NoOrder = NO_ORDER
refusal_number Over = OVER
refusal_number Full = FULL
refusal_number Book = BOOK
refusal_number Shape = SHAPE

-- the refusal with a number of 01
abbrev pub refusal_of : ℕ → Refusal
refusal_of n =
    (cond (eqb n LENGTH) Length
    (cond (eqb n TYPE) «Type»
    (cond (eqb n TIME) Time
    (cond (eqb n FIELD) Field
    (cond (eqb n PRICE) Price
    (cond (eqb n SHARES) Shares
    (cond (eqb n STOCK) Stock
    (cond (eqb n CONFLICT) Conflict
    (cond (eqb n DUPLICATE) Duplicate
    (cond (eqb n NO_ORDER) NoOrder
    (cond (eqb n OVER) Over
    (cond (eqb n FULL) Full
    (cond (eqb n BOOK) Book
    Shape)))))))))))))

pub of_number : (r : Refusal) → refusal_of (refusal_number r) ≡ r
of_number Length = refl
of_number «Type» = refl
of_number Time = refl
of_number Field = refl
of_number Price = refl
of_number Shares = refl
of_number Stock = refl
of_number Conflict = refl
of_number Duplicate = refl
of_number NoOrder = refl
of_number Over = refl
of_number Full = refl
of_number Book = refl
of_number Shape = refl

-- none has the number 0, which says that nothing is refused
pub number_some : (r : Refusal) → refusal_number r ≢ 0
number_some Length = λ e. omega arith
number_some «Type» = λ e. omega arith
number_some Time = λ e. omega arith
number_some Field = λ e. omega arith
number_some Price = λ e. omega arith
number_some Shares = λ e. omega arith
number_some Stock = λ e. omega arith
number_some Conflict = λ e. omega arith
number_some Duplicate = λ e. omega arith
number_some NoOrder = λ e. omega arith
number_some Over = λ e. omega arith
number_some Full = λ e. omega arith
number_some Book = λ e. omega arith
number_some Shape = λ e. omega arith

-- the number says which
pub number_unique : (r q : Refusal) → refusal_number r ≡ refusal_number q → r ≡ q
number_unique r q e = sym (of_number r) ∙ ap refusal_of e ∙ of_number q
