-- A day is a run. Assumes nothing.
use Rattle.std.specs.Prelude.{refl, [], ◌∷◌}
use Rattle.feed.specs.Feed.{day_after}
use Rattle.replay_theorems.specs.Statements.{DayRuns}

-- THEOREM: a day is a run
pub day_runs : DayRuns
unfolding day_after
day_runs day [] = refl
day_runs day (s ∷ ss) = day_runs (day_after day s) ss
