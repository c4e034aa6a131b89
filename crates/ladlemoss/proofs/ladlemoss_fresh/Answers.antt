-- The number is that of what making the tables fresh came to. Assumes nothing.
use mathlib.Core.Path.{sym, ap, ◌∙◌}
use Rattle.fresh.specs.Fresh.{made_number}
use Rattle.ladlemoss.proofs.ladlemoss_fresh.Goals as goal

pub returns-in-Ok : goal.returns-in-Ok
returns-in-Ok c =
    let m = c.make_fresh.ensures in
    record { number = ap made_number (sym c.in-Ok.is ∙ m.made); directory = m.directory; book = m.book }

pub returns-in-Err : goal.returns-in-Err
returns-in-Err c =
    let m = c.make_fresh.ensures in
    record { number = c.from.ensures ∙ ap made_number (sym c.in-Err.is ∙ m.made); directory = m.directory; book = m.book }
