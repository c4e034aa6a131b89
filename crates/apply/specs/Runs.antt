-- A run: byte strings applied in turn to the same two tables, from tables made fresh. Assumes nothing.
use Rattle.std.specs.Prelude.{ℕ, List, [], ◌∷◌, replicate, Result}
use Rattle.fresh.specs.Fresh.{fresh_of}
use Rattle.apply.specs.Apply.{applied}
use Rattle.apply.specs.declared.Outcome.{Outcome}
use Rattle.refusals.specs.declared.Refusal.{Refusal}

pub record Tables : Type 0 where
  pub directory : List ℕ
  pub book : List ℕ

-- a message, and the answer that was given to it
pub record Said : Type 0 where
  pub bytes : List ℕ
  pub outcome : Result Outcome Refusal

-- the tables that the call to make them fresh leaves of d and b
abbrev pub made : List ℕ → List ℕ → Tables
made d b = record { directory = fresh_of d b d; book = fresh_of d b b }

-- tables of these lengths, all zero
abbrev pub fresh_tables : ℕ → ℕ → Tables
fresh_tables n m = record { directory = replicate n 0; book = replicate m 0 }

-- the tables after one message
abbrev pub tables_after : Tables → List ℕ → Tables
tables_after t s = record {
  directory = (applied t.directory t.book s).directory;
  book = (applied t.directory t.book s).book;
}

-- the answer to one message
abbrev pub answer_to : Tables → List ℕ → Result Outcome Refusal
answer_to t s = (applied t.directory t.book s).outcome

-- the tables after a run
abbrev pub reached : Tables → List (List ℕ) → Tables
reached t [] = t
reached t (s ∷ ss) = reached (tables_after t s) ss

-- what was said in a run: each message with its answer
abbrev pub said : Tables → List (List ℕ) → List Said
said t [] = []
said t (s ∷ ss) = record { bytes = s; outcome = answer_to t s } ∷ said (tables_after t s) ss
