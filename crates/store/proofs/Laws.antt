-- The store's loop, from the last byte: the bytes behind place i stand, and the number's rest is to be stored before it.
-- Assumes nothing.
use mathlib.Core.Path.{◌≡◌, ◌∙◌}
use mathlib.Core.List.{List, ◌∷◌, ◌++◌}
use Prim.Native.Nat.{ℕ, zero, suc, ◌-◌, ◌/◌, ◌%◌, ◌≤◌, ◌<◌}
use native.Mathlib.Omega.{arith}
use lib.ListN.{length, drop, set, length-set}
use lib.Seq.{drop-cons, get_or-set_same, drop-set-lt, append_snoc}
use Rattle.store.specs.Store.{big_endian}

pub more : (l : List ℕ) (i x : ℕ) → 0 < i → i ≤ length l → big_endian i x ++ drop i l ≡ big_endian (i - 1) (x / 256) ++ drop (i - 1) (set l (i - 1) (x % 256))
unfolding big_endian
more l zero x p h = absurd (omega arith)
more l (suc i) x p h =
    let m : i < length (set l i (x % 256)) = omega (arith, length-set l i (x % 256)) in
    let e : drop i (set l i (x % 256)) ≡ x % 256 ∷ drop (suc i) l =
    drop-cons (set l i (x % 256)) i 0 m ∙ rw (get_or-set_same l i (x % 256) 0 (omega arith), drop-set-lt (suc i) l i (x % 256) (omega arith)) in
    let q : suc i - 1 ≡ i = omega arith in
    rw (q, e) (append_snoc (big_endian i (x / 256)) (x % 256) (drop (suc i) l))
