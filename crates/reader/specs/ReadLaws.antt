-- The cases of `answer`, one law a case, so that nobody else has to open it. Assumes nothing.
use Rattle.std.specs.Prelude.{◌≡◌, List, ℕ, length}
use Rattle.std.proofs.Common.{arith, eq-eqb, ne_eqb}
use Rattle.refusals.specs.Refusals.{LENGTH, TYPE}
use Rattle.layout.specs.Layout.{length_of}
use Rattle.reader.specs.Read.{no_message, type_of, judged_as, answer}

pub no_bytes : (s : List ℕ) → length s ≡ 0 → answer s ≡ no_message LENGTH
unfolding answer
no_bytes s e = rw (eq-eqb (length s) 0 e)

pub unknown_type : (s : List ℕ) → (length s ≡ 0 → ⊥) → length_of (type_of s) ≡ 0 → answer s ≡ no_message TYPE
unfolding answer
unknown_type s n e = rw (ne_eqb (length s) 0 n, eq-eqb (length_of (type_of s)) 0 e)

pub wrong-length : (s : List ℕ) → (length s ≡ 0 → ⊥) → (length_of (type_of s) ≡ 0 → ⊥) → (length s ≡ length_of (type_of s) → ⊥) → answer s ≡ no_message LENGTH
unfolding answer
wrong-length s n k d = rw (ne_eqb (length s) 0 n, ne_eqb (length_of (type_of s)) 0 k, ne_eqb (length s) (length_of (type_of s)) d)

pub right_length : (s : List ℕ) → (length_of (type_of s) ≡ 0 → ⊥) → length s ≡ length_of (type_of s) → answer s ≡ judged_as (type_of s) s
unfolding answer
right_length s k e =
    rw (ne_eqb (length s) 0 (λ z. k (omega arith)), ne_eqb (length_of (type_of s)) 0 k, eq-eqb (length s) (length_of (type_of s)) e)
