-- What E and C, and what X, do to an order (01, 'What each message does'). Assumes nothing.
use Rattle.std.specs.Prelude.{ℕ}
use Rattle.orders.specs.declared.Order.{Order}
use Rattle.orders.specs.Order.{executed_by, cancelled_by}
use Rattle.take.specs.declared.Taking.{Taking}
use Rattle.take.specs.declared.Taking.TheVariants.{Executed, Cancelled}

abbrev pub taken_by : Taking → Order → ℕ → Order
taken_by Executed o n = executed_by o n
taken_by Cancelled o n = cancelled_by o n
