-- Each way of taking is its step of the order. Assumes nothing.
use mathlib.Core.Path.{◌≡◌}
use Rattle.take.specs.declared.Taking.TheVariants.{Executed, Cancelled}
use Rattle.take.proofs.Laws.{by_executed, by_cancelled}
use Rattle.take.proofs.taken.Goals as goal

pub returns-in-Executed : goal.returns-in-Executed
returns-in-Executed c =
    let a = c.args in
    let e : a.how ≡ Executed = cc c.in-Executed.is in
    by_executed a.how a.o _ a.n e c.executed.ensures

pub returns-in-Cancelled : goal.returns-in-Cancelled
returns-in-Cancelled c =
    let a = c.args in
    let e : a.how ≡ Cancelled = cc c.in-Cancelled.is in
    by_cancelled a.how a.o _ a.n e c.cancelled.ensures
