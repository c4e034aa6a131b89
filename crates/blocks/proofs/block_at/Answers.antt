-- A part is where the stream ends before what is promised; else the block is whole, and ends where it promises. Assumes nothing.
use Rattle.std.proofs.Common.{◌≡◌, ℕ, ◌+◌, ◌≤◌, ◌<◌, List, Some, None, length, drop, sym, ◌∙◌, arith, length-drop, take_all}
use Rattle.std.specs.List.{slice_range}
use Rattle.blocks.specs.Blocks.{block_at, promised}
use Rattle.blocks.specs.BlockLaws.{is_whole, not_whole, at_whole, at_part}
use Rattle.blocks.proofs.block_at.Goals as goal

-- what is got from `at` on
module _ (s r : List ℕ) (at : ℕ) (e : r ≡ slice_range s at (length s)) where
  from_at : r ≡ drop at s
  from_at = e ∙ take_all _ (drop at s) (omega (arith, length-drop at s))

  part : length r < 2 + promised r → None ≡ block_at s at
  part l = sym (at_part s at (not_whole _ (rw (← from_at) l)))

  whole : (n : ℕ) → n ≡ promised r → 2 + n ≤ length r → Some (record { start = at + 2; end = at + 2 + n }) ≡ block_at s at
  whole n p l =
      let w = at_whole s at (is_whole (drop at s) (rw (← from_at, ← p) l)) in
      rw (w, p, from_at)

pub returns-in_err-rest : goal.returns-in_err-rest
returns-in_err-rest c =
    let a = c.args in
    let l = c.in_err-rest.ensures.lookup.0 in
    c.from_residual.ensures ∙ sym (at_part _ _ (not_whole _ (grind (arith, l, length-drop a.at a.s.now))))

pub returns-then-rest-lt2 : goal.returns-then-rest-lt2
returns-then-rest-lt2 c = part _ _ _ c.in_ok-rest.ensures.lookup.0.2 (omega arith)

pub returns-then-rest-promised : goal.returns-then-rest-promised
returns-then-rest-promised c = part _ _ _ c.in_ok-rest.ensures.lookup.0.2 (omega arith)

pub returns : goal.returns
returns c = whole _ _ _ c.in_ok-rest.ensures.lookup.0.2 _ (c.from-promised.ensures ∙ c.u16_at.ensures) (omega arith)
