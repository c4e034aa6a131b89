-- THE DEFINITION of the replay program (01): what it writes for any input. Its messages are applied in turn to fresh tables, refusals
-- are told as they happen; a part of a block at the end is one message more, refused with 1; then the levels, and the counts.
-- Assumes nothing.
use Rattle.std.specs.Prelude.{ℕ, ◌*◌, ◌-◌, List, ◌++◌, length}
use Rattle.book.specs.Book.{words_of}
use Rattle.apply.specs.Runs.{fresh_tables}
use Rattle.blocks.specs.Blocks.{messages_of, left_of}
use Rattle.records.specs.Records.{tally_record}
use Rattle.feed.specs.Feed.{Day, day_through, records_of, closed_tally, closed_record}
use Rattle.ladders.specs.Ladders.{first_of, levels_from}

-- a directory of 2,048 numbers, one for each of as many locates, and a book of 1,024 slots
abbrev pub directory_numbers : ℕ
directory_numbers = 2048

abbrev pub locates : ℕ
locates = 2048

abbrev pub book_words : ℕ
book_words = 16

unfoldable pub fresh_day : Day
fresh_day = record { tables = fresh_tables directory_numbers (257 * book_words); tally = record { messages = 0; refused = 0 } }

-- every level of the book: locate 0 is never used
unfoldable pub all_levels : List ℕ → List ℕ
all_levels b = levels_from b (words_of (length b)) (first_of 1) (first_of locates - first_of 1)

-- the last records, where these bytes are left and the day stands so
unfoldable pub ended : List ℕ → Day → List ℕ
ended left day =
    let t = closed_tally (length left) day.tally in
    closed_record (length left) day.tally ++ (all_levels day.tables.book ++ tally_record t.messages t.refused)

unfoldable pub replayed : List ℕ → List ℕ
replayed s = records_of fresh_day (messages_of s) ++ ended (left_of s) (day_through fresh_day (messages_of s))
