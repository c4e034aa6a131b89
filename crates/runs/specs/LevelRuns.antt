-- The level question shows the shares that stand at a level. Assumes nothing.
use Rattle.std.specs.Prelude.{◌≡◌, ℕ}
use Rattle.std.proofs.Common.{arith, ne_eqb}
use Rattle.kinds.specs.declared.Side.{Side}
use Rattle.kinds.specs.Sides.{side_byte}
use Rattle.kinds.specs.SideLaws.{byte-good, side_back}
use Rattle.apply.specs.Runs.{Tables}
use Rattle.levels.specs.Totals.{total}
use Rattle.levels.specs.Levels.{shares_at, level_at, level_of}
use Rattle.apply_theorems.specs.Means.{shaped_words}
use Rattle.runs.specs.Statements.{Start, Healthy, shares_shown}
use Rattle.runs.specs.Healthy.{healthy_shaped, healthy_sound}

-- the level question shows the shares that stand there
pub level_shown : (n k : ℕ) (t : Tables) → Start n k → Healthy n k t → (l : ℕ) (side : Side) (p : ℕ)
    → shares_shown (level_of t.book l (side_byte side) p) ≡ total (shares_at l side p) t.book k
unfolding level_of level_at
level_shown n k t i h l side p =
    rw (shaped_words (healthy_shaped i h), byte-good side, side_back side, healthy_sound h)
    (rw (ne_eqb k 0 (λ e. omega (arith, i.book.some))))
