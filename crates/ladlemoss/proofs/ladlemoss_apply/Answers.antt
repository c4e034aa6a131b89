-- What is written are the numbers of what apply leaves. Assumes nothing.
use mathlib.Core.Path.{ap, ◌∙◌}
use Rattle.apply.specs.Apply.{After, number_of}
use Rattle.outcomes.specs.Outcomes.{row_of, order_row}
use Rattle.ladlemoss.proofs.ladlemoss_apply.Goals as goal

pub returns : goal.returns
returns c =
    let e = c.apply-outcome.ensures in
    let w = c.write.ensures in
    let o = ap (λ (a : After). a.outcome) e in
    record {
      number = w.0 ∙ ap number_of o;
      directory = ap (λ (a : After). a.directory) e;
      book = ap (λ (a : After). a.book) e;
      message = w.1 ∙ ap row_of o;
      orders = w.2 ∙ ap order_row o;
    }
