-- What follows of the records: the length of each kind, whatever it holds; and what appending comes to, as the record fits or not.
-- Assumes nothing.
use Rattle.std.specs.Prelude.{◌≡◌, List, ◌++◌, ℕ, ◌+◌, ◌≤◌, ◌<◌, take, drop}
use Rattle.std.proofs.Common.{sym, ◌∙◌, arith, append_assoc, le-leb, length-append, length-drop, length-take-le, take_at, drop_at}
use Rattle.std.proofs.lemmas.Bool.{lt-leb}
use Rattle.std.proofs.Math.ListN.{length}
use Rattle.store.specs.StoreLaws.{length-big_endian}
use Rattle.records.specs.Append.{appended, reach}
use Rattle.records.specs.Records.{refusal_record, level_record}

pub length-refusal_record : (message refusal : ℕ) → length (refusal_record message refusal) ≡ 10
unfolding refusal_record
length-refusal_record message refusal = simp (length-append, length-big_endian)

pub length-level_record : (kind locate price total orders : ℕ) → length (level_record kind locate price total orders) ≡ 19
unfolding level_record
length-level_record kind locate price total orders = simp (length-append, length-big_endian)

-- a record that fits
module _ (out : List ℕ) (at : ℕ) (row : List ℕ) (fits : at + length row ≤ length out) where
  pub appended_fits : appended out at row ≡ take at out ++ (row ++ drop (at + length row) out)
  unfolding appended
  appended_fits = simp (le-leb (at + length row) (length out) fits)

  pub reach_fits : reach out at row ≡ at + length row
  unfolding reach
  reach_fits = simp (le-leb (at + length row) (length out) fits)

  length-front : length (take at out ++ row) ≡ at + length row
  length-front = rw (length-append, length-take-le at out (omega arith))

  split : appended out at row ≡ (take at out ++ row) ++ drop (at + length row) out
  split = appended_fits ∙ sym (append_assoc (take at out) row (drop (at + length row) out))

  -- it stands behind the bytes before it, and the rest is as it was
  pub length-appended : length (appended out at row) ≡ length out
  length-appended = rw (split, length-append, length-front, length-drop) (omega arith)

  pub take-appended : take (at + length row) (appended out at row) ≡ take at out ++ row
  take-appended = rw split (take_at (take at out ++ row) (drop (at + length row) out) (at + length row) length-front)

  pub drop-appended : drop (at + length row) (appended out at row) ≡ drop (at + length row) out
  drop-appended = rw split (drop_at (take at out ++ row) (drop (at + length row) out) (at + length row) length-front)

-- and one that does not
module _ (out : List ℕ) (at : ℕ) (row : List ℕ) (over : length out < at + length row) where
  pub appended_over : appended out at row ≡ out
  unfolding appended
  appended_over = simp (lt-leb (at + length row) (length out) over)

  pub reach_over : reach out at row ≡ at
  unfolding reach
  reach_over = simp (lt-leb (at + length row) (length out) over)
