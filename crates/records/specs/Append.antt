-- A record put behind the first `at` bytes of a buffer, if it fits. Assumes nothing.
use Rattle.std.specs.Prelude.{ℕ, ◌+◌, cond, List, ◌++◌, leb, length, take, drop}

unfoldable pub appended : List ℕ → ℕ → List ℕ → List ℕ
appended out at row =
    cond (leb (at + length row) (length out)) (take at out ++ (row ++ drop (at + length row) out)) out

-- where it ends; where it does not fit, where it would have begun
unfoldable pub reach : List ℕ → ℕ → List ℕ → ℕ
reach out at row = cond (leb (at + length row) (length out)) (at + length row) at
