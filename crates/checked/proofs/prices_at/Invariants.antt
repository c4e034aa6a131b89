-- The prices read so far are held, and their faults added up. Assumes nothing.
use Prim.Native.Nat.{ℕ, ◌+◌, ◌*◌, ◌≤◌, ◌<◌}
use mathlib.Core.Path.{◌≡◌}
use lib.ListN.{get_or, length}
use Rattle.laws.specs.Field.{field}
use Rattle.wellformed.specs.FaultSum.{price_held}
use Rattle.checked.specs.Checked.{price_faults}
use Rattle.checked.proofs.prices_at.Given as goal

abbrev pub invariant-loop-i : goal.invariant-loop-i
invariant-loop-i g l = record {
  size : length l.value ≡ g.row.N;
  held : (k : ℕ) → k < l.i → (get_or l.value k (record { 0 = 0 })).0 ≡ price_held (field l.s (l.at + 4 * k) 4);
  faults : l.faults ≡ price_faults l.s l.at l.i;
  small : l.faults ≤ 2 * l.i;
}
