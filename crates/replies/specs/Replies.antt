-- The answers to the desk's questions as numbers: 01's number, and the values beside it, all 0 for a refusal. One definition gives
-- them for every case. Assumes nothing.
use Rattle.refusals.specs.Refusals.{refusal_number}
use Rattle.std.specs.Prelude.{ℕ, List, [], ◌∷◌, Option, Result, Some, None, Ok, Err}
use Rattle.kinds.specs.Sides.{side_byte}
use Rattle.numbers.specs.Shown.{padded}
use Rattle.accounts.specs.declared.Account.{Account}
use Rattle.levels.specs.declared.Level.{Level}
use Rattle.refusals.specs.declared.Refusal.{Refusal}

-- ---- the order question

abbrev pub account_number : Result Account Refusal → ℕ
account_number (Err r) = refusal_number r
account_number (Ok a) = 0

-- added, executed, cancelled, remaining, locate, side, price, attribution
abbrev pub account_row : Result Account Refusal → List ℕ
account_row (Err r) = padded 8 []
account_row (Ok a) =
    a.added ∷ a.executed ∷ a.cancelled ∷ a.remaining ∷ a.locate.0 ∷ side_byte a.side ∷ a.price.0 ∷ a.attribution ∷ []

-- ---- the questions about levels

abbrev pub quote_number : Result (Option Level) Refusal → ℕ
quote_number (Err r) = refusal_number r
quote_number (Ok None) = 0
quote_number (Ok (Some l)) = 0

-- of a level: its total and its count
abbrev pub level_row : Result (Option Level) Refusal → List ℕ
level_row (Err r) = padded 2 []
level_row (Ok None) = padded 2 []
level_row (Ok (Some l)) = l.shares ∷ l.orders ∷ []

-- of the best and the next: 1, price, total and count, or 0 where there is none
abbrev pub quote_row : Result (Option Level) Refusal → List ℕ
quote_row (Err r) = padded 4 []
quote_row (Ok None) = padded 4 []
quote_row (Ok (Some l)) = 1 ∷ l.price ∷ l.shares ∷ l.orders ∷ []

-- ---- the live count

abbrev pub count_number : Result ℕ Refusal → ℕ
count_number (Err r) = refusal_number r
count_number (Ok n) = 0

abbrev pub count_row : Result ℕ Refusal → List ℕ
count_row (Err r) = padded 1 []
count_row (Ok n) = n ∷ []
