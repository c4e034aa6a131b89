-- The loop's invariant: as many bytes are unpadded of the symbol as of its first n bytes, which are left. Assumes nothing.
use mathlib.Core.Path.{◌≡◌}
use Rattle.symbol.specs.Symbol.{unpadded}
use Rattle.symbol.proofs.unpadded_len.Given as goal

abbrev pub invariant-loop-n : goal.invariant-loop-n
invariant-loop-n l = unpadded 8 l.symbol ≡ unpadded l.n l.rest
