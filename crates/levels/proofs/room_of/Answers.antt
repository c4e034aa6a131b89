-- The lesser of three numbers without the first tick. Assumes nothing.
use Rattle.std.proofs.Common.{refl, arith}
use Rattle.levels.specs.Glances.{room_of}
use Rattle.levels.specs.Compare.{room-end}
use Rattle.levels.proofs.room_of.Goals as goal

pub returns-then-end-from : goal.returns-then-end-from
unfolding room_of
returns-then-end-from c =
    rw (← room-end _ _ _ _ _ c.min-to.ensures c.min-past.ensures c.min-end.ensures) (omega (arith, c.if-end-from.true))

pub returns : goal.returns
unfolding room_of
returns c = rw (← room-end _ _ _ _ _ c.min-to.ensures c.min-past.ensures c.min-end.ensures) refl
