-- A whole block at the head of some bytes is their head block whatever comes behind them; and what it holds, and what comes behind
-- it, are bytes if they are. Assumes nothing.
use Rattle.std.specs.Prelude.{◌≡◌, refl, true, List, [], ◌++◌, ℕ, zero, suc, ◌+◌, ◌-◌, ◌≤◌, ◌<◌, length, take, drop}
use Rattle.std.proofs.Common.{⊎_elim, arith, length-append, length-take, get_or-append-add, get_or-take, get_or-drop}
use Rattle.std.proofs.Math.ListN.{length-drop, get_or-append, get_or-eq_default}
use Rattle.std.proofs.lemmas.List.{take-append-le}
use Rattle.std.proofs.Math.Seq.{drop-append-le}
use Rattle.laws.specs.Least.{lt-or-le}
use Rattle.laws.specs.Field.{field}
use Rattle.moves.specs.Lawful.{Bytes}
use Rattle.blocks.specs.Blocks.{promised, whole_block, body, behind}
use Rattle.blocks.specs.BlockLaws.{is_whole, whole_fits}

-- ---- a whole block with more behind it

field-append : (s t : List ℕ) (at w : ℕ) → at + w ≤ length s → field (s ++ t) at w ≡ field s at w
unfolding field
field-append s t at zero l = refl
field-append s t at (suc w) l =
    let h : at + w < length s = omega arith in
    rw (field-append s t at w (omega arith), get_or-append s t 0 (at + w) h)

module _ (s t : List ℕ) (w : whole_block s ≡ true) where
  promised-append : promised (s ++ t) ≡ promised s
  promised-append = field-append s t 0 2 (omega (arith, whole_fits s w))

  pub whole_append : whole_block (s ++ t) ≡ true
  whole_append = is_whole (s ++ t) (omega (arith, promised-append, length-append s t, whole_fits s w))

  pub body-append : body (s ++ t) ≡ body s
  unfolding body
  body-append =
      let e = whole_fits s w in
      rw (promised-append, drop-append-le 2 s t (omega arith))
      (take-append-le (promised s) (drop 2 s) t (omega (arith, length-drop 2 s)))

  pub behind-append : behind (s ++ t) ≡ behind s ++ t
  unfolding behind
  behind-append = rw promised-append (drop-append-le (2 + promised s) s t (whole_fits s w))

-- ---- bytes

pub bytes_none : Bytes []
bytes_none i = omega arith

pub bytes_both : (s t : List ℕ) → Bytes s → Bytes t → Bytes (s ++ t)
bytes_both s t p q i =
    ⊎_elim (λ (l : i < length s). rw (get_or-append s t 0 i l) (p i))
    (λ (l : length s ≤ i).
    let e : length s + (i - length s) ≡ i = omega arith in
    rw e at (rw (← (get_or-append-add s t (i - length s) 0)) at (q (i - length s))))
    (lt-or-le i (length s))

pub bytes_first : (s t : List ℕ) → Bytes (s ++ t) → Bytes s
bytes_first s t p i =
    ⊎_elim (λ (l : i < length s). omega (arith, get_or-append s t 0 i l, p i))
    (λ (l : length s ≤ i). omega (arith, get_or-eq_default s 0 l)) (lt-or-le i (length s))

pub bytes_last : (s t : List ℕ) → Bytes (s ++ t) → Bytes t
bytes_last s t p i = omega (arith, get_or-append-add s t i 0, p (length s + i))

bytes_take : (n : ℕ) (s : List ℕ) → Bytes s → Bytes (take n s)
bytes_take n s p i =
    ⊎_elim (λ (l : i < n). omega (arith, get_or-take n s i 0 l, p i))
    (λ (l : n ≤ i).
    let e : length (take n s) ≤ i = omega (arith, length-take n s) in
    omega (arith, get_or-eq_default (take n s) 0 e))
    (lt-or-le i n)

bytes_drop : (n : ℕ) (s : List ℕ) → Bytes s → Bytes (drop n s)
bytes_drop n s p i = omega (arith, get_or-drop n s i 0, p (n + i))

pub bytes_body : (s : List ℕ) → Bytes s → Bytes (body s)
unfolding body
bytes_body s p = bytes_take (promised s) (drop 2 s) (bytes_drop 2 s p)

pub bytes_behind : (s : List ℕ) → Bytes s → Bytes (behind s)
unfolding behind
bytes_behind s p = bytes_drop (2 + promised s) s p
