-- A slot's numbers are weighed, whatever its reference is. Assumes nothing.
use Rattle.std.proofs.Common.{ap, ◌∙◌}
use Rattle.book.specs.Book.{number_at}
use Rattle.orders.specs.Order.{held}
use Rattle.slots.specs.Stored.{held_at}
use Rattle.levels.specs.Glances.{glanced}
use Rattle.levels.proofs.glance.Goals as goal

pub returns : goal.returns
unfolding held_at
returns c =
    let n0 = number_at c.args.book.numbers.now c.args.book.k c.args.slot.0 0 in
    c.weigh.ensures n0
    ∙ ap (glanced c.args.w c.args.most)
    (λ i. held n0 (c.number_at-n1.ensures i) (c.number_at-n2.ensures i) (c.number_at-n3.ensures i))
