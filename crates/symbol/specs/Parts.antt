-- What it says of a lent slice that it is a part of another: how long it is, which bytes it has, and that two slices which are the same
-- part of one slice are one: a slice is a pointer and what stands there. Assumes nothing.
use Rattle.std.specs.Prelude.{ℕ, ◌+◌, ◌≤◌, ◌<◌, ◌≡◌, List, length, drop, get_or}
use Rattle.std.proofs.Common.{sym, ap, ◌∙◌, arith, length-drop, length-take-le, get_or-take, get_or-drop}
use Rattle.std.specs.Borrow.{Bor}
use Rattle.symbol.specs.declared.Part.{Part}
use Rattle.symbol.specs.Symbol.{IsPart}

module _ (m : Bor (List ℕ)) (p : Part) (r : Bor (List ℕ)) (h : IsPart m p r) where
  pub part_length : p.start + p.len ≤ length m.now → length r.now ≡ p.len
  part_length l =
      ap length h.bytes
      ∙ length-take-le p.len (drop p.start m.now) (omega (arith, length-drop p.start m.now))

  -- byte i of the part is byte start + i of the slice
  pub part_byte : (i : ℕ) → i < p.len → get_or r.now i 0 ≡ get_or m.now (p.start + i) 0
  part_byte i l =
      ap (λ (x : List ℕ). get_or x i 0) h.bytes
      ∙ get_or-take p.len (drop p.start m.now) i 0 l
      ∙ get_or-drop p.start m.now i 0

  pub same_part : (r' : Bor (List ℕ)) → IsPart m p r' → (r.ref_ptr ≡ r'.ref_ptr) × (r.now ≡ r'.now)
  same_part r' h' = (h.place ∙ sym h'.place, h.bytes ∙ sym h'.bytes)
