-- The loop goes from the last byte to the first: what is to stand is the bytes of the rest of the number, and then what stands from i on.
-- Assumes nothing.
use mathlib.Core.Path.{◌≡◌}
use mathlib.Core.List.{◌++◌}
use lib.ListN.{length, drop}
use Rattle.store.specs.Store.{big_endian}
use Rattle.store.proofs.big_endian.Given as goal

abbrev pub invariant-loop-i : goal.invariant-loop-i
invariant-loop-i l = big_endian (length l.initial.part) l.value ≡ big_endian l.i l.rest ++ drop l.i l.part
