-- THE LAW of a step, as a statement: for any weight of what a slot holds, the rest of the book with what the verdict takes out is the
-- book before, and with what it puts in the book after. Everything that is conserved follows from it. Assumes nothing.
use Rattle.std.specs.Prelude.{◌≡◌, cond, List, ℕ, ◌+◌, ◌<◌, eqb, length, get_or, Option, Some}
use Rattle.orders.specs.Order.{remaining}
use Rattle.decide.specs.Decide.{Verdict, refuse, enter, alter, leave, renew, enroll, pass}
use Rattle.levels.specs.Totals.{total}
use Rattle.orders.specs.declared.Order.{Order}

-- the weight that a verdict takes out of the book
abbrev pub taken_out : (Option Order → ℕ) → Verdict → ℕ
taken_out w (refuse n) = 0
taken_out w (enter o) = 0
taken_out w (alter o o' n) = w (Some o)
taken_out w (leave o) = w (Some o)
taken_out w (renew o o') = w (Some o)
taken_out w (enroll l symbol) = 0
taken_out w pass = 0

-- the weight that it puts in; an order used up is gone
abbrev pub put_in : (Option Order → ℕ) → Verdict → ℕ
put_in w (refuse n) = 0
put_in w (enter o) = w (Some o)
put_in w (alter o o' n) = cond (eqb (remaining o') 0) 0 (w (Some o'))
put_in w (leave o) = 0
put_in w (renew o o') = w (Some o')
put_in w (enroll l symbol) = 0
put_in w pass = 0

-- book b, of k map numbers, became b' by the verdict v
pub record Moved (b b' : List ℕ) (k : ℕ) (v : Verdict) : Type 0 where
  pub size : length b' ≡ length b
  -- what stays, for each weight
  pub rest : (Option Order → ℕ) → ℕ
  pub took : (w : Option Order → ℕ) → rest w + taken_out w v ≡ total w b k
  pub gave : (w : Option Order → ℕ) → total w b' k ≡ rest w + put_in w v

-- every number of a table fits 64 bits
abbrev pub Numbers : List ℕ → Type 0
Numbers b = (i : ℕ) → get_or b i 0 < 18446744073709551616
