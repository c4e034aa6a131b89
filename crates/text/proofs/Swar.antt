-- The tests pass exactly on the texts, by induction on the width: the last byte is a letter behind letters, or a space
-- behind a text. Then the same of the numbers that the code computes.
-- Assumes nothing.
use Prim.Native.Nat.{ℕ, zero, suc, ◌+◌, ◌-◌, ◌*◌, ◌/◌, ◌%◌, ◌^◌, ◌≤◌, ◌<◌}
use mathlib.Core.Path.{◌≡◌, sym, ap, ◌∙◌, subst}
use mathlib.Core.Logic.{inl, inr}
use mathlib.Core.Bool.{true}
use native.Mathlib.Omega.{arith}
use native.Mathlib.Decide.{dec_le}
use native.Mathlib.Nat.{le_trans}
use lib.Bits.{bit_and, and_le_r}
use Rattle.text.specs.Text.{letters, text}
use Rattle.text.specs.TextLaws.{letter_of_bounds, letters_join, text_cases, text_of_letters, text_of_space, no_empty_text, fault_of_text, fault_of_no_text, text_fault}
use Rattle.text.proofs.Marks.{rep, marks, Plain, plain_join, plain_front, plain_last, letters_plain, letters-marked, marked-letters, and-marks, and-sum-marks, low_le}
use Rattle.text.proofs.Run.{first, Run, run_front, run_last, run_join, run_all, run_alone, alone_run}

-- n + 1 bytes pass the tests
pub record Passes (n v : ℕ) : Type 0 where
  pub plain : Plain (suc n) v
  pub run : Run n (marks 95 (suc n) v)

-- the mark of the last byte
abbrev mark : ℕ → ℕ
mark v = (v % 256 + 95) / 128 * 128

-- ---- a text passes

letters_pass : (n v : ℕ) → letters (suc n) v ≡ true → Passes n v
letters_pass n v p =
    record { plain = letters_plain (suc n) v p; run = subst (Run n) (sym (letters-marked (suc n) v p)) (run_all n) }

space_passes : (n v : ℕ) → Passes n (v / 256) → v % 256 ≡ 32 → Passes (suc n) v
unfolding marks
space_passes n v p e =
    let z : mark v ≡ 0 = omega arith in
    let m = marks 95 (suc n) (v / 256) in
    record {
      plain = plain_join (suc n) v p.plain (omega arith) (omega arith);
      run = run_join n m (mark v) (omega arith) p.run (ap (λ (x : ℕ). bit_and x (m % 256)) z ∙ sym z);
    }

text-passes : (n v : ℕ) → text (suc n) v ≡ true → Passes n v
text-passes zero v e =
    elim (text_cases zero v e) [ inl p ↦ letters_pass zero v p | inr q ↦ absurd (no_empty_text (v / 256) q.0) ]
text-passes (suc n) v e =
    elim (text_cases (suc n) v e) [
      | inl p ↦ letters_pass (suc n) v p
      | inr q ↦ space_passes n v (text-passes n (v / 256) q.0) q.1
    ]

-- ---- what passes is a text

-- a run whose last byte is marked has every byte marked
run_marked : (n v : ℕ) → Run n (marks 95 (suc n) v) → 128 ≤ marks 95 (suc n) v % 256 → marks 95 (suc n) v ≡ rep 128 (suc n)
unfolding marks rep
run_marked zero v r l = omega arith
run_marked (suc n) v r l =
    let m = marks 95 (suc n) (v / 256) in
    let small : mark v < 256 = omega arith in
    let last : (m * 256 + mark v) % 256 ≡ mark v = omega arith in
    let here : 128 ≤ mark v = omega arith in
    let before = le_trans here (run_last n m (mark v) small r) in
    let ih = run_marked n (v / 256) (run_front n m (mark v) small r) before in
    omega arith

one_passes : (v : ℕ) → Passes zero v → text 1 v ≡ true
unfolding marks rep first
one_passes v p =
    let b = plain_last zero v p.plain in
    let r = p.run in
    let l = and_le_r (marks 95 1 v) (marks 95 1 v / 256) in
    text_of_letters zero v (marked-letters 1 v p.plain (omega arith))

letter-passes : (n v : ℕ) → Passes (suc n) v → 33 ≤ v % 256 → text (suc (suc n)) v ≡ true
unfolding marks
letter-passes n v p l =
    let b = plain_last (suc n) v p.plain in
    let m = marks 95 (suc n) (v / 256) in
    let small : mark v < 256 = omega arith in
    let here : 128 ≤ mark v = omega arith in
    let before = le_trans here (run_last n m (mark v) small p.run) in
    let all = run_marked n (v / 256) (run_front n m (mark v) small p.run) before in
    text_of_letters (suc n) v
    (letters_join (suc n) v (marked-letters (suc n) (v / 256) (plain_front (suc n) v p.plain) all)
    (letter_of_bounds (v % 256) l b.1))

passes_front : (n v : ℕ) → Passes (suc n) v → Passes n (v / 256)
unfolding marks
passes_front n v p =
    let b = plain_last (suc n) v p.plain in
    record {
      plain = plain_front (suc n) v p.plain;
      run = run_front n (marks 95 (suc n) (v / 256)) (mark v) (omega arith) p.run;
    }

passes-text : (n v : ℕ) → Passes n v → text (suc n) v ≡ true
passes-text zero v p = one_passes v p
passes-text (suc n) v p =
    elim (dec_le 33 (v % 256)) [
      | yes l ↦ letter-passes n v p l
      | no h ↦ text_of_space (suc n) v (passes-text n (v / 256) (passes_front n v p)) (space h)
    ]
  where
    space : (33 ≤ v % 256 → ⊥) → v % 256 ≡ 32
    space h = let b = plain_last (suc n) v p.plain in omega arith

-- ---- the numbers that the code computes

-- what `&` with the top bits leaves of w bytes with c added to each
abbrev pub marked : ℕ → ℕ → ℕ → ℕ
marked c w v = bit_and (v + rep c w) (rep 128 w)

-- the tests as the code makes them, of n + 1 bytes
pub record Tests (n v : ℕ) : Type 0 where
  pub low : bit_and v (rep 128 (suc n)) ≡ 0
  pub below : marked 1 (suc n) v ≡ 0
  pub from : marked 96 (suc n) v ≡ rep 128 (suc n)
  pub alone : marked 95 (suc n) v - bit_and (marked 95 (suc n) v) (marked 95 (suc n) v / 256) ≡ first n

-- where the first test passes no byte is above 127, so that the sums fit
pub sums_fit : (w v : ℕ) → v < 256 ^ w → bit_and v (rep 128 w) ≡ 0 → v ≤ rep 127 w
sums_fit w v h e = low_le w v h (sym (and-marks w v) ∙ e)

pub eight_fit : (v : ℕ) → v < 18446744073709551616 → bit_and v 9259542123273814144 ≡ 0 → v ≤ 9187201950435737471
unfolding rep
eight_fit = sums_fit 8

text_tests : (n v : ℕ) → text (suc n) v ≡ true → Tests n v
text_tests n v e =
    let p = text-passes n v e in
    let z = p.plain.low in
    record {
      low = and-marks (suc n) v ∙ z;
      below = and-sum-marks 1 (suc n) v (omega arith) z ∙ p.plain.below;
      from = and-sum-marks 96 (suc n) v (omega arith) z ∙ p.plain.from;
      alone = run_alone n (marked 95 (suc n) v) (subst (Run n) (sym (and-sum-marks 95 (suc n) v (omega arith) z)) p.run);
    }

tests_text : (n v : ℕ) → Tests n v → text (suc n) v ≡ true
tests_text n v t =
    let z = sym (and-marks (suc n) v) ∙ t.low in
    let below = sym (and-sum-marks 1 (suc n) v (omega arith) z) ∙ t.below in
    let from = sym (and-sum-marks 96 (suc n) v (omega arith) z) ∙ t.from in
    let run = subst (Run n) (and-sum-marks 95 (suc n) v (omega arith) z) (alone_run n (marked 95 (suc n) v) t.alone) in
    passes-text n v (record { plain = record { low = z; below = below; from = from }; run = run })

-- ---- so the fault is what the tests say

pub failed_fault : (n v : ℕ) → (Tests n v → ⊥) → 1 ≡ text_fault (suc n) v
failed_fault n v f = sym (fault_of_no_text (suc n) v (λ e. f (text_tests n v e)))

pub passed_fault : (n v : ℕ) → Tests n v → 0 ≡ text_fault (suc n) v
passed_fault n v t = sym (fault_of_text (suc n) v (tests_text n v t))
