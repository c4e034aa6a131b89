-- What was found and what the slot holds fix the concern. Assumes nothing.
use Rattle.std.proofs.lemmas.Bool.{not-false, not-true}
use mathlib.Core.Path.{sym, ◌∙◌}
use Rattle.slots.specs.Concerned.{concern_of}
use Rattle.slots.proofs.concerned.Goals as goal

pub returns-in_default : goal.returns-in_default
unfolding concern_of
returns-in_default c = rw c.in_default.is

pub held_at-requires : goal.held_at-requires
held_at-requires c =
    let within = c.requires in
    rw c.in-Some.is at within

pub returns-in_default-held_at : goal.returns-in_default-held_at
unfolding concern_of
returns-in_default-held_at c =
    let h = sym c.held_at.ensures ∙ c.in_default-held_at.is in
    rw (c.in-Some.is, h)

pub returns-then-ne : goal.returns-then-ne
unfolding concern_of
returns-then-ne c =
    let h = sym c.held_at.ensures ∙ c.in-Some-held_at.is in
    rw (c.in-Some.is, h, not-true _ (sym c.ne.ensures ∙ c.if-ne.true))

pub returns : goal.returns
unfolding concern_of
returns c =
    let h = sym c.held_at.ensures ∙ c.in-Some-held_at.is in
    rw (c.in-Some.is, h, not-false _ (sym c.ne.ensures ∙ c.if-ne.false))
