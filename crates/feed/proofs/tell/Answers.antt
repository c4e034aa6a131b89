-- An accepted message's record is none, and appending none changes nothing. Assumes nothing.
use Rattle.std.proofs.Common.{◌≡◌}
use Rattle.feed.proofs.Laws.{none_reached, none_appended}
use Rattle.feed.proofs.tell.Goals as goal

pub returns-then-number-eq0 : goal.returns-then-number-eq0
returns-then-number-eq0 c =
    let zero : c.args.number ≡ 0 = c.if-number-eq0.true in
    rw zero (none_reached _ _, none_appended _ _)
