-- What a Stock, MPID or Attribution field holds (01, 'What a well-formed message holds'): the first byte from hex 21 to
-- 7E, then such bytes, then only spaces. A field is the number that its bytes make, big-endian: `v % 256` is its last byte,
-- and `v / 256` is the field without it. So a text is letters alone, or a text and one more space. Assumes nothing.
use Rattle.std.specs.Prelude.{ℕ, zero, suc, ◌/◌, ◌%◌, Bool, true, false, ◌&&◌, ◌||◌, eqb, leb}

-- a byte from hex 21 to 7E
unfoldable pub letter : ℕ → Bool
letter b = leb 33 b && leb b 126

-- w bytes that are letters
unfoldable pub letters : ℕ → ℕ → Bool
unfolding letter
letters zero v = true
letters (suc w) v = letters w (v / 256) && letter (v % 256)

-- w bytes that are a text
unfoldable pub text : ℕ → ℕ → Bool
unfolding letters
text zero v = false
text (suc w) v = letters (suc w) v || (text w (v / 256) && eqb (v % 256) 32)
