-- What follows of a number as bytes: there are as many as were asked, and read back they are the number, as far as it fits them.
-- Assumes nothing.
use Rattle.std.specs.Prelude.{◌≡◌, refl, List, [], ◌∷◌, ◌++◌, ℕ, zero, suc, ◌+◌, ◌/◌, ◌%◌, ◌^◌, ◌≤◌, get_or, length}
use Rattle.std.proofs.Common.{sym, ◌∙◌, pow-suc, zero-add, add-one, arith, lit<, length-append}
use Rattle.std.proofs.Math.Nat.{one-le-pow}
use Rattle.std.proofs.Math.Arith.{mod-mul}
use Rattle.std.proofs.Math.ListN.{get_or-append}
use Rattle.std.proofs.lemmas.List.{get_or_at}
use Rattle.laws.specs.Field.{field}
use Rattle.store.specs.Store.{big_endian}

pub length-big_endian : (w v : ℕ) → length (big_endian w v) ≡ w
unfolding big_endian
length-big_endian zero v = refl
length-big_endian (suc w) v = simp (length-append, length-big_endian w (v / 256), add-one)

-- a field that ends within the first of two lists is that list's
field_front : (s t : List ℕ) (at w : ℕ) → at + w ≤ length s → field (s ++ t) at w ≡ field s at w
unfolding field
field_front s t at zero h = refl
field_front s t at (suc w) h = rw (field_front s t at w (omega arith), get_or-append s t 0 (at + w) (omega arith))

-- what is stored reads back, at any width: whole where it fits, and else its lowest bytes
pub stored_back : (w v : ℕ) → field (big_endian w v) 0 w ≡ v % 256 ^ w
unfolding field big_endian
stored_back zero v = omega arith
stored_back (suc w) v =
    let b = big_endian w (v / 256) in
    let n : length b ≡ w = length-big_endian w (v / 256) in
    let front : field (b ++ (v % 256 ∷ [])) 0 w ≡ v / 256 % 256 ^ w = field_front b (v % 256 ∷ []) 0 w (omega arith) ∙ stored_back w (v / 256) in
    let last : get_or (b ++ (v % 256 ∷ [])) (0 + w) 0 ≡ v % 256 = rw zero-add (get_or_at b (v % 256) [] 0 w n) in
    rw (front, last, pow-suc) (sym (mod-mul v (one-le-pow w 256 (lit< tt)) (lit< tt)))
