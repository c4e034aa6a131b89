-- WHAT IS PROMISED of the replay program's calls, however its input arrives and however its buffers fill: what is written is what the
-- whole input fixes. The other files prove it. Assumes nothing.
use Rattle.std.specs.Prelude.{ℕ, ◌*◌, ◌-◌, ◌≤◌, ◌<◌, ◌≡◌, ◌≢◌, true, false, List, [], ◌++◌, length, drop}
use Rattle.apply.specs.Runs.{reached}
use Rattle.moves.specs.Lawful.{Bytes}
use Rattle.blocks.specs.Blocks.{whole_block, messages_of, left_of}
use Rattle.records.specs.Records.{tally_record, refusal_size}
use Rattle.feed.specs.Feed.{Day, numbered, day_through, records_of, ran_through, closed_tally, closed_record}
use Rattle.ladders.specs.Ladders.{first_of, readable, shown}
use Rattle.replay_theorems.specs.Replay.{locates, fresh_day, replayed}

-- reading and feeding, in any order: the bytes read so far, those still held, where the day stands, and what was written
pub data Went : List ℕ → List ℕ → Day → List ℕ → Type 0 where
  begins : Went [] [] fresh_day []
  reads : (s held out t : List ℕ) (day : Day) → Went s held day out → Went (s ++ t) (held ++ t) day out
  feeds : (s held out : List ℕ) (day : Day) (room : ℕ) → Went s held day out
      → Went s (ran_through room held day).left (ran_through room held day).day (out ++ (ran_through room held day).records)

-- filling buffers with levels: the rung to go on from, and what was written
pub data LevelsWritten (b : List ℕ) : ℕ → List ℕ → Type 0 where
  begins : LevelsWritten b (first_of 1) []
  fills : (p n : ℕ) (out : List ℕ) → LevelsWritten b p out → LevelsWritten b (shown n b p (first_of locates)).rung (out ++ (shown n b p (first_of locates)).records)

-- all that is written once no whole block is held and no level is left
abbrev pub Replays : Type 0
Replays = (s held out rows : List ℕ) (day : Day) → Bytes s → Went s held day out → whole_block held ≡ false
    → LevelsWritten day.tables.book (first_of locates) rows
    → let t = closed_tally (length held) day.tally in
    out ++ (closed_record (length held) day.tally ++ (rows ++ tally_record t.messages t.refused)) ≡ replayed s

-- a day's tables are those of a run: what is promised over runs (runs) holds of them
abbrev pub DayRuns : Type 0
DayRuns = (day : Day) (ss : List (List ℕ)) → (day_through day ss).tables ≡ reached day.tables ss

-- a call with room for a record for each byte takes every message
abbrev pub EnoughRoom : Type 0
EnoughRoom = (room : ℕ) (s : List ℕ) (day : Day) → refusal_size * length s ≤ room
    → ran_through room s day ≡ record { records = records_of day (messages_of s); left = left_of s; day = day_through day (messages_of s) }

-- what a call leaves of its input is what stands behind the bytes that it used
abbrev pub LeftBehind : Type 0
LeftBehind = (room : ℕ) (s : List ℕ) (day : Day)
    → drop (length s - length (ran_through room s day).left) s ≡ (ran_through room s day).left

-- a call that is lent a whole block, and room for a refusal's record, uses it
abbrev pub GoesOn : Type 0
GoesOn = (room : ℕ) (held : List ℕ) (day : Day) → whole_block held ≡ true → refusal_size ≤ room → length (ran_through room held day).left < length held

-- no block is longer than this: a buffer of more bytes has room to read where no whole block is held
abbrev pub longest : ℕ
longest = 65537

abbrev pub HasRoom : Type 0
HasRoom = (held : List ℕ) → Bytes held → whole_block held ≡ false → length held < longest

-- what is left of any input in the end is no whole block, but a part of one or nothing
abbrev pub PartLeft : Type 0
PartLeft = (s : List ℕ) → whole_block (left_of s) ≡ false

-- the book can always be read to the end
abbrev pub Readable : Type 0
Readable = (s held out : List ℕ) (day : Day) → Bytes s → Went s held day out → readable day.tables.book ≡ true

-- and no message, of whatever bytes, is refused with 13 or 14: our tables are never damaged
abbrev pub NeverRefused : Type 0
NeverRefused = (s held out m : List ℕ) (day : Day) → Bytes s → Went s held day out → (numbered day m ≢ 13) × (numbered day m ≢ 14)
