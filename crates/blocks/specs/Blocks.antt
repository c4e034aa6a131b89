-- THE DEFINITION of a block (01, 'The replay program'): a 2-byte big-endian length and that many bytes; and of the messages of an
-- input, one a whole block. Assumes nothing.
use Rattle.std.specs.Prelude.{ℕ, zero, suc, ◌+◌, Bool, cond, ◌&&◌, Option, Some, None, List, [], ◌∷◌, leb, length, take, drop}
use Rattle.std.specs.declared.ops.Range.{Range}
use Rattle.laws.specs.Field.{field}

-- how many bytes the block that begins s promises
abbrev pub promised : List ℕ → ℕ
promised s = field s 0 2

-- s begins with a whole block: its length, and as many bytes as that promises
unfoldable pub whole_block : List ℕ → Bool
whole_block s = leb 2 (length s) && leb (2 + promised s) (length s)

-- the message in it, and what comes behind it
unfoldable pub body : List ℕ → List ℕ
body s = take (promised s) (drop 2 s)

unfoldable pub behind : List ℕ → List ℕ
behind s = drop (2 + promised s) s

-- the messages of at most n whole blocks, in turn, and what is left behind the last
unfoldable pub messages_in : ℕ → List ℕ → List (List ℕ)
messages_in zero s = []
messages_in (suc n) s = cond (whole_block s) (body s ∷ messages_in n (behind s)) []

unfoldable pub left_in : ℕ → List ℕ → List ℕ
left_in zero s = s
left_in (suc n) s = cond (whole_block s) (left_in n (behind s)) s

-- the messages of an input, and what is left behind its last whole block: none is shorter than 2 bytes, so its length is enough
abbrev pub messages_of : List ℕ → List (List ℕ)
messages_of s = messages_in (length s) s

abbrev pub left_of : List ℕ → List ℕ
left_of s = left_in (length s) s

-- where the message of the block that begins at `at` begins and ends; none where there is no whole block
unfoldable pub block_at : List ℕ → ℕ → Option (Range ℕ)
block_at s at =
    cond (whole_block (drop at s)) (Some (record { start = at + 2; end = at + 2 + promised (drop at s) })) None
