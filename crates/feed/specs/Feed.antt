-- THE DEFINITION of what the replay program does with whole blocks (01): each is a message, applied to both tables and counted, and a
-- refused one leaves a record as it happens. The counters turn over at 2^64. Assumes nothing.
use Rattle.std.specs.Prelude.{ℕ, zero, suc, ◌+◌, ◌-◌, ◌%◌, ◌^◌, cond, ◌&&◌, List, [], ◌∷◌, ◌++◌, length, drop, ◌==◌, nat_le}
use Rattle.refusals.specs.Refusals.{LENGTH}
use Rattle.apply.specs.Apply.{number_of}
use Rattle.apply.specs.Runs.{Tables, tables_after, answer_to}
use Rattle.blocks.specs.Blocks.{whole_block, body, behind}
use Rattle.records.specs.Records.{refusal_record, refusal_size}
use Rattle.feed.specs.declared.Tally.{Tally}
use Rattle.feed.specs.declared.Fed.{Fed}

-- where a day stands: both tables, how many messages there were and how many of them were refused
pub record Day : Type 0 where
  pub tables : Tables
  pub tally : Tally

-- one more
abbrev pub more : ℕ → ℕ
more n = (n + 1) % 2 ^ 64

-- ---- one message

-- the number of a message is the count with it; a refusal is counted too
abbrev pub counted : Tally → ℕ → Tally
counted t number = record {
  messages = more t.messages;
  refused = cond (number == 0) t.refused (more t.refused);
}

-- a refusal's record; an accepted message leaves none
abbrev pub told : Tally → ℕ → List ℕ
told t number = cond (number == 0) [] (refusal_record (more t.messages) number)

-- 01's number for a message
abbrev pub numbered : Day → List ℕ → ℕ
numbered day s = number_of (answer_to day.tables s)

unfoldable pub day_after : Day → List ℕ → Day
day_after day s = record { tables = tables_after day.tables s; tally = counted day.tally (numbered day s) }

unfoldable pub record_of : Day → List ℕ → List ℕ
record_of day s = told day.tally (numbered day s)

-- ---- messages in turn: the day behind the last, and their records

abbrev pub day_through : Day → List (List ℕ) → Day
day_through day [] = day
day_through day (s ∷ ss) = day_through (day_after day s) ss

abbrev pub records_of : Day → List (List ℕ) → List ℕ
records_of day [] = []
records_of day (s ∷ ss) = record_of day s ++ records_of (day_after day s) ss

-- ---- whole blocks, while there is room for a refusal's record

-- what was written, what is left of the input, and where the day stands
pub record Ran : Type 0 where
  pub records : List ℕ
  pub left : List ℕ
  pub day : Day

abbrev pub record_behind : List ℕ → Ran → Ran
record_behind first x = record { records = first ++ x.records; left = x.left; day = x.day }

-- at most n blocks, into so much room
unfoldable pub ran : ℕ → ℕ → List ℕ → Day → Ran
ran zero room s day = record { records = []; left = s; day = day }
ran (suc n) room s day =
    cond (whole_block s && nat_le refusal_size room)
    (record_behind (record_of day (body s)) (ran n (room - length (record_of day (body s))) (behind s) (day_after day (body s))))
    (record { records = []; left = s; day = day })

-- as many blocks as there are: none is shorter than 2 bytes
abbrev pub ran_through : ℕ → List ℕ → Day → Ran
ran_through room s day = ran (length s) room s day

-- ---- what the call leaves

pub record FeedLeaves : Type 0 where
  pub fed : Fed
  pub tables : Tables
  pub out : List ℕ

abbrev pub feed_leaves : List ℕ → List ℕ → Ran → FeedLeaves
feed_leaves s out x = record {
  fed = record { at = length s - length x.left; written = length x.records; tally = x.day.tally };
  tables = x.day.tables;
  out = x.records ++ drop (length x.records) out;
}

-- ---- the end of the input

-- bytes that make no whole block are one message, refused with 1 and never applied
abbrev pub closed_tally : ℕ → Tally → Tally
closed_tally left t = cond (left == 0) t (counted t LENGTH)

abbrev pub closed_record : ℕ → Tally → List ℕ
closed_record left t = cond (left == 0) [] (told t LENGTH)

-- what the call leaves there
pub record Closes : Type 0 where
  pub fed : Fed
  pub out : List ℕ

abbrev pub closes : ℕ → Tally → List ℕ → Closes
closes left t out = record {
  fed = record { at = left; written = length (closed_record left t); tally = closed_tally left t };
  out = closed_record left t ++ drop (length (closed_record left t)) out;
}
