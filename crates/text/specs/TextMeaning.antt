-- What `text` means, as the paper says it of the bytes from the front: k of them, at least one, are letters, and each of the
-- others is a space. Assumes nothing.
use Rattle.std.specs.Prelude.{ℕ, ◌-◌, ◌/◌, ◌%◌, ◌^◌, ◌≤◌, ◌<◌, ◌≡◌}

-- byte i, from the front, of the w bytes of v
unfoldable pub byte : ℕ → ℕ → ℕ → ℕ
byte w v i = v / 256 ^ (w - 1 - i) % 256

-- a byte from hex 21 to 7E
abbrev pub IsLetter : ℕ → Type 0
IsLetter b = (33 ≤ b) × (b ≤ 126)

-- the first k of the w bytes of v are letters, at least one, and the others are spaces
pub record LettersThenSpaces (w v k : ℕ) : Type 0 where
  pub some : 1 ≤ k
  pub within : k ≤ w
  pub front : (i : ℕ) → i < k → IsLetter (byte w v i)
  pub back : (i : ℕ) → k ≤ i → i < w → byte w v i ≡ 32
