-- THE DEFINITION of the replay program's records (01, 'The replay program'): one byte of kind, then a body whose length the kind
-- fixes. Assumes nothing.
use Rattle.std.specs.Prelude.{ℕ, List, ◌∷◌, ◌++◌}
use Rattle.store.specs.Store.{big_endian}

-- r: the message's number, from 1, in 8 bytes; its refusal in 1
unfoldable pub refusal_record : ℕ → ℕ → List ℕ
refusal_record message refusal = 114 ∷ (big_endian 8 message ++ big_endian 1 refusal)

-- b or s: a level's locate in 2 bytes, its price in 4, its total in 8, its orders in 4
unfoldable pub level_record : ℕ → ℕ → ℕ → ℕ → ℕ → List ℕ
level_record kind locate price total orders =
    kind ∷ (big_endian 2 locate ++ (big_endian 4 price ++ (big_endian 8 total ++ big_endian 4 orders)))

-- z: how many messages there were in 8 bytes, and how many of them were refused in 8
unfoldable pub tally_record : ℕ → ℕ → List ℕ
tally_record messages refused = 122 ∷ (big_endian 8 messages ++ big_endian 8 refused)

-- their lengths
abbrev pub refusal_size : ℕ
refusal_size = 10

abbrev pub level_size : ℕ
level_size = 19
