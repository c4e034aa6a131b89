-- What a run leaves is the rest of its input, behind the bytes that it used (`left_behind`), and shorter where there was a whole block
-- (`goes_on`); and where nothing is short, no whole block (`part_left`). Assumes nothing.
use Rattle.std.specs.Prelude.{◌≡◌, refl, true, false, List, ℕ, zero, suc, ◌+◌, ◌-◌, ◌≤◌, ◌<◌, length, drop}
use Rattle.std.proofs.Common.{sym, ap, ◌∙◌, ⊎_elim, arith, length-drop, drop-drop, le-leb}
use Rattle.std.proofs.lemmas.Bool.{false≢true}
use Rattle.laws.specs.Bools.{cases}
use Rattle.laws.specs.Least.{lt-or-le}
use Rattle.laws.specs.FieldLaws.{field_lt}
use Rattle.blocks.specs.Blocks.{promised, whole_block, body, behind, left_in}
use Rattle.blocks.specs.BlockLaws.{is_whole, not_whole, length-behind}
use Rattle.records.specs.Records.{refusal_size}
use Rattle.feed.specs.Feed.{Day, day_after, record_of, ran, ran_through}
use Rattle.feed.specs.FeedLaws.{by_block, through_takes}
use Rattle.replay_theorems.specs.Statements.{LeftBehind, PartLeft, GoesOn, longest, HasRoom}

-- ---- the rest of its input

record Rest (s left : List ℕ) : Type 0 where
  at : ℕ
  inside : at ≤ length s
  is : left ≡ drop at s

rest_behind : (s left : List ℕ) → whole_block s ≡ true → Rest (behind s) left → Rest s left
unfolding behind
rest_behind s left w r =
    let b = length-behind s w in
    let i = r.inside in
    record { at = 2 + promised s + r.at; inside = omega arith; is = r.is ∙ drop-drop r.at (2 + promised s) s }

ran_rest : (n room : ℕ) (s : List ℕ) (day : Day) → Rest s (ran n room s day).left
ran_rest =
    by_block (λ s day x. Rest s x.left) (λ s day. record { at = 0; inside = omega arith; is = refl })
    (λ s day x. rest_behind s x.left)

rest_left : (s left : List ℕ) → Rest s left → drop (length s - length left) s ≡ left
rest_left s left r =
    let i = r.inside in
    let e : length s - length left ≡ r.at = omega (arith, ap length r.is, length-drop r.at s) in
    rw e (sym r.is)

-- THEOREM: what is left stands behind the bytes that were used
pub left_behind : LeftBehind
left_behind room s day = rest_left s (ran_through room s day).left (ran_rest (length s) room s day)

-- ---- going on

length_left : (n room : ℕ) (s : List ℕ) (day : Day) → length (ran n room s day).left ≤ length s
length_left n room s day =
    let r = ran_rest n room s day in
    let i = r.inside in
    omega (arith, ap length r.is, length-drop r.at s)

-- THEOREM: a whole block is used where there is room for a record
pub goes_on : GoesOn
goes_on room s day w h =
    let first = record_of day (body s) in
    let next = day_after day (body s) in
    let l = length_left (length (behind s)) (room - length first) (behind s) next in
    let e = ap (λ x. length x.left) (through_takes room s day (rw (w, le-leb refusal_size room h))) in
    omega (arith, e, l, length-behind s w)

-- THEOREM: what makes no whole block is shorter than the longest one
pub has_room : HasRoom
has_room s b w =
    ⊎_elim
    (λ (h : length s < longest). h)
    (λ (h : longest ≤ length s). absurd (false≢true (sym w ∙ is_whole s (omega (arith, field_lt s 0 2 b)))))
    (lt-or-le (length s) longest)

-- ---- no whole block

ends : (n : ℕ) (s : List ℕ) → length s ≤ n → whole_block (left_in n s) ≡ false
unfolding left_in
ends zero s l = not_whole s (omega arith)
ends (suc n) s l =
    ⊎_elim (λ w. rw w (ends n (behind s) (omega (arith, length-behind s w)))) (λ w. rw w w) (cases (whole_block s))

-- THEOREM: what is left in the end is no whole block
pub part_left : PartLeft
part_left s = ends (length s) s (omega arith)
