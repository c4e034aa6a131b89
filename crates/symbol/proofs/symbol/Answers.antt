-- The part's bounds are those of a place inside the message, and the slice is made at that place. Assumes nothing.
use mathlib.Core.Path.{refl}
use native.Mathlib.Omega.{arith}
use Rattle.symbol.proofs.Laws.{inside, cut}
use Rattle.symbol.proofs.symbol.Goals as goal

pub overflow_add-end : goal.overflow_add-end
overflow_add-end c =
    let a = c.args in
    omega (arith, inside a.directory.now a.message.now _ c.part_of-part.ensures)

pub slice_bounds-result-end : goal.slice_bounds-result-end
slice_bounds-result-end c =
    let a = c.args in
    inside a.directory.now a.message.now _ c.part_of-part.ensures

pub returns : goal.returns
returns c = cut c.args.message _ _ _ c.part_of-part.ensures refl refl
