-- A row that does not fit leaves all as it was; one that does is copied whole. Assumes nothing.
use native.Mathlib.Omega.{arith}
use Rattle.records.proofs.Laws.{fit, unfit}
use Rattle.records.proofs.append.Goals as goal

pub returns-then-at-out : goal.returns-then-at-out
returns-then-at-out c = unfit _ _ _ (grind (arith, c.then-at-out.branch))

pub returns : goal.returns
returns c = fit _ _ _ _ (omega arith) c.copy_from_slice.ensures.after
