-- THE DEFINITION of a number as bytes: its w lowest bytes, the most significant first. It is said from the last byte, as the meaning
-- of a field is (laws, Field). Assumes nothing.
use Rattle.std.specs.Prelude.{ℕ, zero, suc, ◌/◌, ◌%◌, List, [], ◌∷◌, ◌++◌}

unfoldable pub big_endian : ℕ → ℕ → List ℕ
big_endian zero v = []
big_endian (suc w) v = big_endian w (v / 256) ++ (v % 256 ∷ [])
