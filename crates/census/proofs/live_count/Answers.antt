-- Each way is what the test of the shape decides. Assumes nothing.
use mathlib.Core.Path.{refl, sym}
use native.Mathlib.Omega.{arith}
use Rattle.census.proofs.Laws.{shapeless, shaped}
use Rattle.census.proofs.live_count.Goals as goal

pub returns-in_default : goal.returns-in_default
returns-in_default c = shapeless c.args.book.now _ (sym c.in_default.ensures.shapeless) refl

pub returns : goal.returns
returns c =
    let s = c.in-Some.ensures.shaped in
    shaped c.args.book.now _ _ s.1 (omega (arith, s.2)) (rw s.0 at c.count_live.ensures)
