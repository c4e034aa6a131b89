-- One message as the code takes it: the day goes on, and its record is put behind those that stand in the buffer. Assumes nothing.
use Rattle.std.specs.Prelude.{ℕ, List}
use Rattle.records.specs.Append.{appended, reach}
use Rattle.feed.specs.Feed.{Day, FeedLeaves, day_after, record_of}

-- where the day stands
abbrev pub day_of : FeedLeaves → Day
day_of x = record { tables = x.tables; tally = x.fed.tally }

-- the message s, which ends at a place of the input
abbrev pub stepped : List ℕ → ℕ → FeedLeaves → FeedLeaves
stepped s end x = record {
  fed = record {
    at = end;
    written = reach x.out x.fed.written (record_of (day_of x) s);
    tally = (day_after (day_of x) s).tally;
  };
  tables = (day_after (day_of x) s).tables;
  out = appended x.out x.fed.written (record_of (day_of x) s);
}
