-- What each row of the table of starred cases claims. Assumes nothing.
use Rattle.std.specs.Prelude.{◌≡◌, ℕ, replicate, Result}
use mathlib.Core.List.{List, []}
use Rattle.reader.specs.Read.{answer}
use Rattle.numbers.specs.Shown.{answer_number}
use Rattle.fresh.specs.Fresh.{made_number, made_of}
use Rattle.apply.specs.Apply.{number_of}
use Rattle.apply.specs.Runs.{Tables, fresh_tables, tables_after, answer_to, reached}
use Rattle.accounts.specs.Accounts.{order_asked}
use Rattle.levels.specs.Levels.{level_of}
use Rattle.replies.specs.Replies.{account_number, account_row, quote_number, level_row}
use Rattle.outcomes.specs.Outcomes.{order_row}
use Rattle.cases.specs.Table.{Case, read, run, account, level, shape}
use Rattle.apply.specs.declared.Outcome.{Outcome}
use Rattle.refusals.specs.declared.Refusal.{Refusal}

-- both tables after messages applied in turn
abbrev pub tables : List (List ℕ) → Tables
tables ms = reached (fresh_tables 2 257) ms

-- an answer and both tables are those of a row
pub record Left (o : Result Outcome Refusal) (t : Tables) (n : ℕ) (figures d b : List ℕ) : Type 0 where
  pub number : number_of o ≡ n
  pub orders : order_row o ≡ figures
  pub directory : t.directory ≡ d
  pub book : t.book ≡ b

-- what a row claims
abbrev pub Holds : Case → Type 0
Holds (read s n) = answer_number (answer s) ≡ n
Holds (run ms s n figures d b) = Left (answer_to (tables ms) s) (tables_after (tables ms) s) n figures d b
Holds (account ms r n values) = (account_number (order_asked (tables ms).book r) ≡ n) × (account_row (order_asked (tables ms).book r) ≡ values)
Holds (level ms l side p n values) = (quote_number (level_of (tables ms).book l side p) ≡ n) × (level_row (level_of (tables ms).book l side p) ≡ values)
Holds (shape d b n m) =
    (made_number (made_of (replicate d 0) (replicate b 0)) ≡ n) × (number_of (answer_to (fresh_tables d b) []) ≡ m)
