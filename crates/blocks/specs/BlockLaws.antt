-- What a whole block says of its stream, and a part of one: nobody else has to open the definitions. Assumes nothing.
use Rattle.std.specs.Prelude.{ℕ, zero, suc, ◌+◌, ◌-◌, ◌≤◌, ◌<◌, ◌≡◌, refl, true, false, Some, None, List, [], ◌∷◌, leb, length, take, drop}
use Rattle.std.proofs.Common.{sym, add-zero, add_assoc, arith, ap, ◌∙◌, ⊎_elim, le-leb, leb-true, length-drop, get_or-drop, drop-drop}
use Rattle.std.specs.declared.ops.Range.{Range}
use Rattle.laws.specs.Bools.{cases, and_both, and_right}
use Rattle.laws.specs.Field.{field}
use Rattle.blocks.specs.Blocks.{promised, whole_block, body, behind, messages_in, left_in, messages_of, left_of, block_at}

-- ---- the block that begins a stream

pub is_whole : (s : List ℕ) → 2 + promised s ≤ length s → whole_block s ≡ true
unfolding whole_block
is_whole s l =
    and_both (leb 2 (length s)) (leb (2 + promised s) (length s)) (le-leb 2 (length s) (omega arith)) (le-leb (2 + promised s) (length s) l)

-- its length and what that promises are there
pub whole_fits : (s : List ℕ) → whole_block s ≡ true → 2 + promised s ≤ length s
unfolding whole_block
whole_fits s e = leb-true (2 + promised s) (length s) (and_right (leb 2 (length s)) (leb (2 + promised s) (length s)) e)

pub not_whole : (s : List ℕ) → length s < 2 + promised s → whole_block s ≡ false
not_whole s l = ⊎_elim (λ e. let f = whole_fits s e in absurd (omega arith)) (λ e. e) (cases (whole_block s))

pub length-behind : (s : List ℕ) → whole_block s ≡ true → length (behind s) + 2 + promised s ≡ length s
unfolding behind
length-behind s e = let f = whole_fits s e in simp length-drop (omega arith)

-- ---- the messages of an input

-- more blocks than there are change nothing
in_same : (n m : ℕ) (s : List ℕ) → length s ≤ n → length s ≤ m → (messages_in n s ≡ messages_in m s) × (left_in n s ≡ left_in m s)
unfolding messages_in left_in
in_same zero zero s p q = (refl, refl)
in_same zero (suc m) s p q = rw (not_whole s (omega arith)) (refl, refl)
in_same (suc n) zero s p q = rw (not_whole s (omega arith)) (refl, refl)
in_same (suc n) (suc m) s p q =
    ⊎_elim
    (λ w. let l = length-behind s w in let h = in_same n m (behind s) (omega arith) (omega arith) in rw (w, h.0, h.1) (refl, refl))
    (λ w. rw w (refl, refl))
    (cases (whole_block s))

pub no_message_lem : (s : List ℕ) → whole_block s ≡ false → (messages_of s ≡ []) × (left_of s ≡ s)
unfolding messages_in left_in
no_message_lem s w = let h = in_same (length s) (suc (length s)) s (omega arith) (omega arith) in rw (h.0, h.1, w) (refl, refl)

pub first-message : (s : List ℕ) → whole_block s ≡ true → (messages_of s ≡ body s ∷ messages_of (behind s)) × (left_of s ≡ left_of (behind s))
unfolding messages_in left_in
first-message s w =
    let l = length-behind s w in
    let h = in_same (length s) (suc (length s)) s (omega arith) (omega arith) in
    let k = in_same (length s) (length (behind s)) (behind s) (omega arith) (omega arith) in
    rw (h.0, h.1, w, k.0, k.1) (refl, refl)

-- ---- the block that begins at a place

-- a field behind the first bytes
field-drop : (s : List ℕ) (at i w : ℕ) → field (drop at s) i w ≡ field s (at + i) w
unfolding field
field-drop s at i zero = refl
field-drop s at i (suc w) = rw (field-drop s at i w, get_or-drop, add_assoc)

pub promised_at : (s : List ℕ) (at : ℕ) → promised (drop at s) ≡ field s at 2
promised_at s at = field-drop s at 0 2 ∙ ap (λ (n : ℕ). field s n 2) (add-zero at)

pub at_whole : (s : List ℕ) (at : ℕ) → whole_block (drop at s) ≡ true → block_at s at ≡ Some (record { start = at + 2; end = at + 2 + promised (drop at s) })
unfolding block_at
at_whole s at e = rw e

pub at_part : (s : List ℕ) (at : ℕ) → whole_block (drop at s) ≡ false → block_at s at ≡ None
unfolding block_at
at_part s at e = rw e

-- where a whole block stands, its message, and what comes behind it
pub record FoundBlock (s : List ℕ) (at from end : ℕ) : Type 0 where
  pub whole_there : whole_block (drop at s) ≡ true
  pub begins : from ≡ at + 2
  pub runs : from ≤ end
  pub ends : end ≤ length s
  pub message : take (end - from) (drop from s) ≡ body (drop at s)
  pub rest : drop end s ≡ behind (drop at s)

stands : (s : List ℕ) (at from end : ℕ) → whole_block (drop at s) ≡ true → from ≡ at + 2 → end ≡ at + 2 + promised (drop at s) → FoundBlock s at from end
unfolding body behind
stands s at from end w f e =
    let l = whole_fits (drop at s) w in
    let n = length-drop at s in
    let q : end - from ≡ promised (drop at s) = omega arith in
    record {
      whole_there = w;
      begins = f;
      runs = omega arith;
      ends = omega arith;
      message = rw (q, f, drop-drop);
      rest = rw (e, drop-drop, add_assoc);
    }

pub found : (s : List ℕ) (at : ℕ) (r : Range ℕ) → block_at s at ≡ Some r → FoundBlock s at r.start r.end
found s at r e =
    ⊎_elim
    (λ w.
    let b : record { start = at + 2; end = at + 2 + promised (drop at s) } ≡ r = cc (at_whole s at w, e) in
    stands s at r.start r.end w (ap (λ (x : Range ℕ). x.start) (sym b)) (ap (λ (x : Range ℕ). x.end) (sym b)))
    (λ w. let b = at_part s at w in let z : ◌≡◌ {A = ℕ} 0 1 = cc in absurd (omega arith))
    (cases (whole_block (drop at s)))

pub missing : (s : List ℕ) (at : ℕ) → block_at s at ≡ None → whole_block (drop at s) ≡ false
missing s at e =
    ⊎_elim (λ w. let b = at_whole s at w in let z : ◌≡◌ {A = ℕ} 0 1 = cc in absurd (omega arith)) (λ w. w) (cases (whole_block (drop at s)))
