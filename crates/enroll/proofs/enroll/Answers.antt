-- Each way through the checks is the verdict that its findings lead to. Assumes nothing.
use mathlib.Core.Path.{refl, sym, ◌∙◌}
use native.Mathlib.Omega.{arith}
use Rattle.directory.specs.DirectoryLaws.{entry_means}
use Rattle.enroll.proofs.Laws.{no_entry, new, another, again}
use Rattle.enroll.proofs.enroll.Goals as goal

pub returns-in_default : goal.returns-in_default
returns-in_default c =
    let a = c.args in
    no_entry a.directory.now a.locate.0 a.symbol _ (sym c.entry_at.ensures ∙ c.in_default.is) refl

pub register-requires : goal.register-requires
register-requires c =
    let a = c.args in
    ((entry_means a.directory.now a.locate.0 c.in-Some.registered).0 (sym c.entry_at.ensures ∙ c.in-Some.is)).inside

pub returns-then-registered-eq0 : goal.returns-then-registered-eq0
returns-then-registered-eq0 c =
    let a = c.args in
    let p = sym c.entry_at.ensures ∙ c.in-Some.is in
    new a.directory.now a.locate.0 a.symbol _ c.in-Some.registered p _ (omega (arith, c.if-registered-eq0.true)) refl c.register.ensures

pub returns-then-registered-symbol : goal.returns-then-registered-symbol
returns-then-registered-symbol c =
    let a = c.args in
    let p = sym c.entry_at.ensures ∙ c.in-Some.is in
    another a.directory.now a.locate.0 a.symbol _ c.in-Some.registered p (omega (arith, c.if-registered-eq0.false)) (omega (arith, c.if-registered-symbol.true)) refl

pub returns : goal.returns
returns c =
    let a = c.args in
    let p = sym c.entry_at.ensures ∙ c.in-Some.is in
    again a.directory.now a.locate.0 a.symbol _ c.in-Some.registered p (omega (arith, c.if-registered-eq0.false)) (omega (arith, c.if-registered-symbol.false)) refl
