-- What the calls for another language ensure: the numbers of what the calls below them answer, and both tables. Assumes nothing.
use Rattle.std.specs.Prelude.{ℕ, ◌≡◌, List, [], ◌∷◌}
use Rattle.fresh.specs.Fresh.{made_number, made_of, fresh_of}
use Rattle.apply.specs.Apply.{After, number_of}
use Rattle.symbol.specs.declared.Part.{Part}
use Rattle.outcomes.specs.Outcomes.{row_of, order_row}

-- the number r, and the tables d and b became d' and b'
pub record Freshens (d b : List ℕ) (r : ℕ) (d' b' : List ℕ) : Type 0 where
  pub number : r ≡ made_number (made_of d b)
  pub directory : d' ≡ fresh_of d b d
  pub book : b' ≡ fresh_of d b b

-- the number r, both tables, the message's numbers and the orders' figures, for what apply leaves
pub record Answers (a : After) (r : ℕ) (d b out figures : List ℕ) : Type 0 where
  pub number : r ≡ number_of a.outcome
  pub directory : d ≡ a.directory
  pub book : b ≡ a.book
  pub message : out ≡ row_of a.outcome
  pub orders : figures ≡ order_row a.outcome

-- where a part of a message starts and how long it is
abbrev pub part_row : Part → List ℕ
part_row p = p.start ∷ p.len ∷ []
