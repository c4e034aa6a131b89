-- What appending no record leaves, and the end of the input where bytes are left. Assumes nothing.
use Rattle.std.proofs.Common.{◌≡◌, ℕ, ◌+◌, ◌<◌, ◌≤◌, List, [], length, sym, ◌∙◌, ⊎_elim, add-zero, zero-add, arith, take-append-drop, ne_eqb}
use Rattle.laws.specs.Least.{lt-or-le}
use Rattle.records.specs.Append.{appended, reach}
use Rattle.records.specs.RecordLaws.{appended_fits, reach_fits, appended_over, reach_over, length-refusal_record}
use Rattle.feed.specs.declared.Tally.{Tally}
use Rattle.feed.specs.Feed.{closes, counted, more, told}

-- ---- a record behind those in a buffer

module _ (out : List ℕ) (at : ℕ) where
  pub none_reached : at ≡ reach out at []
  none_reached =
      ⊎_elim (λ (l : length out < at). sym (reach_over out at [] (omega arith))) (λ (l : at ≤ length out). omega (arith, reach_fits out at [] (omega arith)))
      (lt-or-le (length out) at)

  pub none_appended : out ≡ appended out at []
  none_appended =
      ⊎_elim
      (λ (l : length out < at). sym (appended_over out at [] (omega arith)))
      (λ (l : at ≤ length out). sym (appended_fits out at [] (omega arith) ∙ rw (add-zero, take-append-drop)))
      (lt-or-le (length out) at)

-- ---- the end of the input

module _ (left : ℕ) (t : Tally) (out : List ℕ) where
  pub cut_short : (left ≡ 0 → ⊥) → length out ≡ 10 → (w : ℕ) (u : Tally) (o : List ℕ) → w ≡ reach out 0 (told t 1) → o ≡ appended out 0 (told t 1) → u ≡ counted t 1
      → record { fed = record { at = left; written = w; tally = u }; out = o } ≡ closes left t out
  cut_short n l w u o ew eo eu =
      let k = length-refusal_record (more t.messages) 1 in
      let f : 0 + length (told t 1) ≤ length out = omega arith in
      rw (eu, ew, eo, reach_fits out 0 (told t 1) f, appended_fits out 0 (told t 1) f, zero-add, ne_eqb left 0 n)
