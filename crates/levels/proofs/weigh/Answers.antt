-- Each test that fails is one that a slot must pass; past them all, the compare tells whether the order matters. Assumes nothing.
use Rattle.std.proofs.Common.{◌≡◌, ℕ, ◌+◌, ◌-◌, ◌/◌, ◌%◌, ◌<◌, ◌≤◌, true, sym, ◌∙◌, arith}
use Rattle.kinds.specs.Admission.{maximum}
use Rattle.orders.specs.Soundness.{Passes}
use Rattle.levels.specs.Letters.{pass_letters, unlettered}
use Rattle.levels.specs.declared.Wanted.{Wanted}
use Rattle.levels.specs.Glances.{Based, lettered}
use Rattle.levels.specs.Ticks.{ticks_to}
use Rattle.levels.specs.Compare.{Weighed, fails_glance, stands_glance, other_glance}
use Rattle.levels.proofs.weigh.Goals as goal

-- past the tests
weighed : (w : Wanted) (n1 n2 n3 base past ticks : ℕ)
    → n1 ≤ 8589934596294967295 → 281474976710656 ≤ n3 → n2 / 4294967296 + n2 % 4294967296 < n1 % 4294967296 → lettered n3 ≡ true
    → n1 < 18446744073709551616 → n3 < 18446744073709551616 → Based w base → base < 18446744073709551616
    → past < 18446744073709551616 → ticks ≡ ticks_to w.side (n1 / 4294967296)
    → (past + base) % 18446744073709551616 ≡ n3 - n3 % 1099511627776 + ticks → Weighed w n1 n2 n3 base past ticks
unfolding maximum
weighed w n1 n2 n3 base past ticks price locate left letters second fourth based small fits away wraps =
    let good = pass_letters n3 letters in
    let passes : Passes n1 n2 n3 = record {
      price = omega (arith, price);
      locate = omega (arith, locate);
      side = good.side;
      attribution = good.attribution;
      low = good.low;
      left = omega (arith, left);
    } in
    record {
      passes = passes;
      second = second;
      fourth = fourth;
      based = based;
      small = small;
      fits = fits;
      away = away;
      wraps = wraps;
    }

pub returns-then-n1-gt8589934596294967295 : goal.returns-then-n1-gt8589934596294967295
unfolding maximum
returns-then-n1-gt8589934596294967295 c = λ n0. fails_glance _ _ _ _ _ n0 (λ p. omega (arith, c.if-n1-gt8589934596294967295.true, p.price))

pub returns-then-n3-lt281474976710656 : goal.returns-then-n3-lt281474976710656
returns-then-n3-lt281474976710656 c = λ n0. fails_glance _ _ _ _ _ n0 (λ p. omega (arith, c.if-n3-lt281474976710656.true, p.locate))

pub returns-then-added-gone : goal.returns-then-added-gone
returns-then-added-gone c = λ n0. fails_glance _ _ _ _ _ n0 (λ p. omega (arith, c.if-added-gone.true, p.left))

pub returns-then-not-good : goal.returns-then-not-good
returns-then-not-good c =
    λ n0. fails_glance _ _ _ _ _ n0 (unlettered _ _ _ (sym c.lettered-good.ensures ∙ c.if-not-good.true))

pub returns-then-past-room : goal.returns-then-past-room
returns-then-past-room c = λ n0.
    stands_glance _ _ _ _ _ n0
    (weighed c.args.w c.args.n1 c.args.n2 c.args.n3 c.args.base _ _ c.if-n1-gt8589934596294967295.false c.if-n3-lt281474976710656.false c.if-added-gone.false
    (sym c.lettered-good.ensures ∙ c.if-not-good.false) c.ranges.n1.fits c.ranges.n3.fits c.requires.0 c.ranges.base.fits c.wrapping_sub_u64-past.type_inv
    c.ticks_to-ticks.ensures.0 c.wrapping_sub_u64-past.ensures.value)
    (omega (arith, c.if-past-room.true, c.requires.1))

pub returns : goal.returns
returns c = λ n0.
    other_glance _ _ _ _ _ n0
    (weighed c.args.w c.args.n1 c.args.n2 c.args.n3 c.args.base _ _ c.if-n1-gt8589934596294967295.false c.if-n3-lt281474976710656.false c.if-added-gone.false
    (sym c.lettered-good.ensures ∙ c.if-not-good.false) c.ranges.n1.fits c.ranges.n3.fits c.requires.0 c.ranges.base.fits c.wrapping_sub_u64-past.type_inv
    c.ticks_to-ticks.ensures.0 c.wrapping_sub_u64-past.ensures.value)
    (omega (arith, c.if-past-room.false, c.requires.1))
