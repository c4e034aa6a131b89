-- Each arm is the outcome of its step. Assumes nothing.
use Rattle.std.specs.Prelude.{Ok}
use mathlib.Core.Path.{sym, ap}
use Rattle.apply.specs.Apply.{concluded}
use Rattle.apply.proofs.conclude.Goals as goal

pub returns-in-Plain : goal.returns-in-Plain
returns-in-Plain c = sym (ap (λ x. concluded c.args.m (Ok x)) c.in-Plain.is)

pub returns-in-One : goal.returns-in-One
returns-in-One c = sym (ap (λ x. concluded c.args.m (Ok x)) c.in-One.is)

pub returns-in-Two : goal.returns-in-Two
returns-in-Two c = sym (ap (λ x. concluded c.args.m (Ok x)) c.in-Two.is)
