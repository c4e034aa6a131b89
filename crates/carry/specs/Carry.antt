-- THE DEFINITION of what is kept of a buffer: its bytes from `from` on and before `to`, moved to its front. Assumes nothing.
use Rattle.std.specs.Prelude.{ℕ, ◌-◌, cond, ◌&&◌, List, ◌++◌, leb, length, take, drop}

-- the bytes that are not used yet
abbrev pub between : List ℕ → ℕ → ℕ → List ℕ
between buffer from to = take (to - from) (drop from buffer)

-- behind them the buffer is as before; where there are no such bytes nothing changes
unfoldable pub carried : List ℕ → ℕ → ℕ → List ℕ
carried buffer from to =
    cond (leb from to && leb to (length buffer)) (between buffer from to ++ drop (to - from) buffer) buffer

unfoldable pub kept_length : List ℕ → ℕ → ℕ → ℕ
kept_length buffer from to = cond (leb from to && leb to (length buffer)) (to - from) to
