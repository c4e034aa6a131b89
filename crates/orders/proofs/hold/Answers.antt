-- Each test that fails is one that `sound` asks, and past them all the slot passes: the order is then made of what was read.
-- Assumes nothing.
use native.Mathlib.Omega.{arith}
use mathlib.Core.Path.{sym, ◌∙◌}
use Prim.Native.Nat.{◌/◌}
use Rattle.laws.specs.Bools.{true_not_false}
use Rattle.orders.specs.Order.{order_of}
use Rattle.orders.specs.Soundness.{Passes, admitted, not_admitted, passes-held, fails_held}
use Rattle.orders.proofs.hold.Goals as goal

pub returns-in_default : goal.returns-in_default
returns-in_default c =
    let a = c.args in
    sym (fails_held a.n0 a.n1 a.n2 a.n3 (λ p. omega (arith, not_admitted (a.n1 / 4294967296) _ (sym c.in_default.is ∙ c.try_from.ensures))))

pub returns-then-locate-eq0 : goal.returns-then-locate-eq0
returns-then-locate-eq0 c =
    let a = c.args in
    sym (fails_held a.n0 a.n1 a.n2 a.n3 (λ p. omega arith))

pub returns-then-not-sided : goal.returns-then-not-sided
returns-then-not-sided c =
    let a = c.args in
    sym (fails_held a.n0 a.n1 a.n2 a.n3 (λ p. true_not_false _ (c.good-sided.ensures ∙ p.side) (c.if-not-sided.true)))

pub returns-then-n3-ne0 : goal.returns-then-n3-ne0
returns-then-n3-ne0 c =
    let a = c.args in
    sym (fails_held a.n0 a.n1 a.n2 a.n3 (λ p. omega arith))

pub returns-then-added-executed : goal.returns-then-added-executed
returns-then-added-executed c =
    let a = c.args in
    sym (fails_held a.n0 a.n1 a.n2 a.n3 (λ p. omega arith))

pub returns-then-attribution_fault-ne0 : goal.returns-then-attribution_fault-ne0
returns-then-attribution_fault-ne0 c =
    let a = c.args in
    sym (fails_held a.n0 a.n1 a.n2 a.n3 (λ p. omega arith))

pub returns : goal.returns
unfolding order_of
returns c =
    let a = c.args in
    let price = admitted (a.n1 / 4294967296) c.in-Ok.price (sym c.in-Ok.is ∙ c.try_from.ensures) in
    let passes : Passes a.n1 a.n2 a.n3 = record {
      price = price.0;
      locate = omega arith;
      side = sym c.good-sided.ensures ∙ c.if-not-sided.false;
      attribution = omega arith;
      low = omega arith;
      left = omega arith;
    } in
    rw (price.1, c.of.ensures) (sym (passes-held a.n0 a.n1 a.n2 a.n3 passes))
