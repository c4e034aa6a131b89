-- The loop's idea: the whole run is the records so far and then the run of what is left. So a turn moves a block's record from the
-- second to the first, and where no block is taken the second is empty. Assumes nothing.
use Rattle.std.proofs.Common.{◌≡◌, ℕ, ◌+◌, ◌-◌, ◌<◌, ◌≤◌, Bool, true, false, ◌&&◌, leb, List, ◌++◌, length, take, drop, sym, refl, ap, ◌∙◌, subst, append-nil, arith, length-drop, take-append-drop, length-take-le, drop-drop, le-leb}
use native.Mathlib.Nat.{sub-zero}
use borrow.Author.Tests.{lt-leb}
use Rattle.laws.specs.Bools.{and_both}
use Rattle.blocks.specs.Blocks.{whole_block, body, behind}
use Rattle.blocks.specs.BlockLaws.{FoundBlock}
use Rattle.records.specs.Append.{appended}
use Rattle.records.specs.Records.{refusal_size}
use Rattle.records.specs.RecordLaws.{reach_fits, length-appended, take-appended, drop-appended}
use Rattle.feed.specs.Feed.{Day, FeedLeaves, record_behind, feed_leaves, day_after, ran_through, record_of}
use Rattle.feed.specs.FeedLaws.{turn_taken, ran_stops, through_takes, behind_twice, record_fits}
use Rattle.feed.specs.Step.{day_of, stepped}

-- ---- the loop

-- x stands at a place of the input: what is written stands at the front of the buffer, and the rest of it is as it was
pub record Going (s out : List ℕ) (day : Day) (x : FeedLeaves) : Type 0 where
  pub read : x.fed.at ≤ length s
  pub fits : x.fed.written ≤ length out
  pub size : length x.out ≡ length out
  pub rest : drop x.fed.written x.out ≡ drop x.fed.written out
  pub run : ran_through (length out) s day ≡ record_behind (take x.fed.written x.out) (ran_through (length out - x.fed.written) (drop x.fed.at s) (day_of x))

pub start : (s out : List ℕ) (day : Day)
    → Going s out day (record { fed = record { at = 0; written = 0; tally = day.tally }; tables = day.tables; out = out })
start s out day = record { read = omega arith; fits = omega arith; size = refl; rest = refl; run = rw sub-zero }

no_room : (room : ℕ) (s : List ℕ) → room < refusal_size → turn_taken room s ≡ false
no_room room s l = rw (lt-leb refusal_size room l) (go (whole_block s))
  where
    go : (b : Bool) → b && false ≡ false
    go true = refl
    go false = refl

module _ (s out : List ℕ) (day : Day) (x : FeedLeaves) (g : Going s out day x) where
  abbrev w : ℕ
  w = x.fed.written

  abbrev here : List ℕ
  here = drop x.fed.at s

  -- no block more
  ends : turn_taken (length out - w) here ≡ false → x ≡ feed_leaves s out (ran_through (length out) s day)
  ends e =
      let l : w ≤ length x.out = omega arith in
      let a : length s - (length s - x.fed.at) ≡ x.fed.at = omega arith in
      sym (ap (feed_leaves s out) (g.run ∙ ap (record_behind (take w x.out)) (ran_stops (length here) (length out - w) here (day_of x) e))
      ∙ rw (append-nil, length-take-le w x.out l, ← g.rest, take-append-drop, length-drop, a))

  pub full : length x.out - w < refusal_size → x ≡ feed_leaves s out (ran_through (length out) s day)
  full l = ends (no_room (length out - w) here (omega (arith, g.size)))

  pub part : whole_block here ≡ false → x ≡ feed_leaves s out (ran_through (length out) s day)
  part e = ends (rw e)

  -- one block more
  module _ (from end : ℕ) (f : FoundBlock s x.fed.at from end) (r : refusal_size ≤ length x.out - w) where
    abbrev row : List ℕ
    row = record_of (day_of x) (body here)

    run_more : ran_through (length out) s day ≡ record_behind (take w x.out ++ row) (ran_through (length out - (w + length row)) (drop end s) (day_after (day_of x) (body here)))
    run_more =
        let t = and_both (whole_block here) (leb refusal_size (length out - w)) f.whole_there (le-leb refusal_size (length out - w) (omega (arith, g.size))) in
        let n : length out - w - length row ≡ length out - (w + length row) = omega arith in
        g.run ∙ ap (record_behind (take w x.out)) (through_takes (length out - w) here (day_of x) t)
        ∙ rw (n, f.rest) (behind_twice (take w x.out) row (ran_through (length out - (w + length row)) (behind here) (day_after (day_of x) (body here))))

    goes_on : Going s out day (stepped (body here) end x)
    goes_on =
        let k = record_fits (day_of x) (body here) in
        let l : w + length row ≤ length x.out = omega (arith, g.size, g.fits) in
        let m = reach_fits x.out w row l in
        record {
          read = f.ends;
          fits = omega (arith, g.size);
          size = length-appended x.out w row l ∙ g.size;
          rest =
              ap (λ (n : ℕ). drop n (appended x.out w row)) m ∙ drop-appended x.out w row l
              ∙ sym (drop-drop (length row) w x.out) ∙ ap (drop (length row)) g.rest
              ∙ drop-drop (length row) w out ∙ ap (λ (n : ℕ). drop n out) (sym m);
          run = rw (m, take-appended x.out w row l) run_more;
        }

    pub goes : (y : FeedLeaves) → y ≡ stepped (take (end - from) (drop from s)) end x → Going s out day y
    goes y e = subst (Going s out day) (sym (e ∙ ap (λ (b : List ℕ). stepped b end x) f.message)) goes_on
