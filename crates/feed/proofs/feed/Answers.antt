-- The goals that the check leaves. Assumes nothing.
use Rattle.std.proofs.Common.{sym, ap, ◌∙◌, arith}
use Rattle.blocks.specs.BlockLaws.{found, missing}
use Rattle.feed.specs.Feed.{FeedLeaves}
use Rattle.feed.proofs.Loop.{start, full, part, goes}
use Rattle.feed.proofs.feed.Goals as goal

pub loop-out-init : goal.loop-out-init
loop-out-init c = start _ _ _

pub slice_bounds-message-count : goal.slice_bounds-message-count
slice_bounds-message-count c = (found _ _ _ (sym c.block_at.ensures ∙ c.in-Some.is)).runs

pub slice_bounds-message-start : goal.slice_bounds-message-start
slice_bounds-message-start c = let f = found _ _ _ (sym c.block_at.ensures ∙ c.in-Some.is) in omega arith

pub slice_bounds-message-end : goal.slice_bounds-message-end
slice_bounds-message-end c = let f = found _ _ _ (sym c.block_at.ensures ∙ c.in-Some.is) in omega arith

pub loop-out-smaller : goal.loop-out-smaller
loop-out-smaller c =
    let f = found _ _ _ (sym c.block_at.ensures ∙ c.in-Some.is) in
    let e = ap (λ (x : FeedLeaves). x.fed.at) c.message-fed.ensures in
    omega arith

pub loop-out-preserved : goal.loop-out-preserved
loop-out-preserved c =
    let f = found _ _ _ (sym c.block_at.ensures ∙ c.in-Some.is) in
    goes _ _ _ _ c.loop-out.invariant _ _ f c.loop-out-test.true _ c.message-fed.ensures

pub returns-after-loop-out : goal.returns-after-loop-out
returns-after-loop-out c = full _ _ _ _ c.loop-out.invariant (omega (arith, c.loop-out-test.false))

pub returns-in_default : goal.returns-in_default
returns-in_default c = part _ _ _ _ c.loop-out.invariant (missing _ _ (sym c.block_at.ensures ∙ c.in_default.is))
