-- The loop's invariant, `Going`: the whole run is the records so far and then the run of what is left. Assumes nothing.
use Rattle.std.proofs.Common.{◌-◌, length}
use Rattle.feed.proofs.Loop.{Going}
use Rattle.feed.proofs.feed.Given as goal

abbrev pub invariant-loop-out : goal.invariant-loop-out
invariant-loop-out l =
    Going l.input l.initial.out (record { tables = record { directory = l.initial.directory; book = l.initial.book }; tally = l.initial.fed.tally })
    (record { fed = l.fed; tables = record { directory = l.directory; book = l.book }; out = l.out })

abbrev pub decreases-loop-out : goal.decreases-loop-out
decreases-loop-out l = length l.input - l.fed.at
