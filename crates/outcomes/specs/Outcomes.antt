-- An outcome as numbers: 01's number, the 18 numbers of its message, and the ten figures of the orders it concerns. One definition
-- gives them for every case. Assumes nothing.
use Rattle.std.specs.Prelude.{ℕ, List, [], ◌∷◌, Result, Ok, Err}
use Rattle.kinds.specs.Sides.{side_byte}
use Rattle.decide.specs.declared.Figures.{Figures}
use Rattle.numbers.specs.Shown.{padded, message_row}
use Rattle.apply.specs.declared.Outcome.TheVariants.{Accepted, Moved, Replaced}
use Rattle.apply.specs.declared.Outcome.{Outcome}
use Rattle.refusals.specs.declared.Refusal.{Refusal}

-- the type byte and the fields of the message: all 0 for a refusal
abbrev pub row_of : Result Outcome Refusal → List ℕ
row_of (Err r) = padded 18 []
row_of (Ok (Accepted m)) = message_row m
row_of (Ok (Moved m f)) = message_row m
row_of (Ok (Replaced m f g)) = message_row m

-- an order's locate, side, price, the shares taken or put, and what then remains; and the numbers behind them
abbrev pub figured : Figures → List ℕ → List ℕ
figured f rest = f.locate.0 ∷ side_byte f.side ∷ f.price.0 ∷ f.shares ∷ f.remains ∷ rest

-- the figures of the order concerned and, for U, of the one that starts; 0 where there is none
abbrev pub order_row : Result Outcome Refusal → List ℕ
order_row (Err r) = padded 10 []
order_row (Ok (Accepted m)) = padded 10 []
order_row (Ok (Moved m f)) = figured f (padded 5 [])
order_row (Ok (Replaced m f g)) = figured f (figured g [])
