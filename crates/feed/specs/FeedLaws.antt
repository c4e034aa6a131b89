-- The cases of `ran`, one law a case, so that nobody else has to open it: as many blocks as there are is what any greater number comes
-- to, since no whole block is shorter than 2 bytes. Assumes nothing.
use Rattle.std.specs.Prelude.{◌≡◌, ℕ, zero, suc, ◌+◌, ◌-◌, ◌≤◌, Bool, true, false, cond, ◌&&◌, List, [], ◌++◌, length, ◌==◌, nat_le, refl}
use Rattle.std.proofs.Common.{arith, ap, ◌∙◌, ⊎_elim, append_assoc}
use Rattle.laws.specs.Bools.{cases, and_left}
use Rattle.blocks.specs.Blocks.{whole_block, body, behind}
use Rattle.blocks.specs.BlockLaws.{not_whole, length-behind}
use Rattle.records.specs.Records.{refusal_record, refusal_size}
use Rattle.records.specs.RecordLaws.{length-refusal_record}
use Rattle.feed.specs.Feed.{Day, Ran, more, day_after, numbered, record_of, record_behind, ran, ran_through}

-- a block is taken where one is whole and there is room
abbrev pub turn_taken : ℕ → List ℕ → Bool
turn_taken room s = whole_block s && nat_le refusal_size room

abbrev pub still : List ℕ → Day → Ran
still s day = record { records = []; left = s; day = day }

-- ---- at most n blocks

pub ran_stops : (n room : ℕ) (s : List ℕ) (day : Day) → turn_taken room s ≡ false → ran n room s day ≡ still s day
unfolding ran
ran_stops zero room s day e = refl
ran_stops (suc n) room s day e = rw e

pub ran_takes : (n room : ℕ) (s : List ℕ) (day : Day) → turn_taken room s ≡ true
    → ran (suc n) room s day ≡ record_behind (record_of day (body s)) (ran n (room - length (record_of day (body s))) (behind s) (day_after day (body s)))
unfolding ran
ran_takes n room s day e = rw e

-- what holds where nothing is done, and before a block where it holds behind it, holds of every run
pub by_block : (P : List ℕ → Day → Ran → Type 0) → ((s : List ℕ) (day : Day) → P s day (still s day))
    → ((s : List ℕ) (day : Day) (x : Ran) → whole_block s ≡ true → P (behind s) (day_after day (body s)) x → P s day (record_behind (record_of day (body s)) x))
    → (n room : ℕ) (s : List ℕ) (day : Day) → P s day (ran n room s day)
unfolding ran
by_block P none one zero room s day = none s day
by_block P none one (suc n) room s day =
    ⊎_elim
    (λ e. rw e (one s day _ (and_left (whole_block s) (nat_le refusal_size room) e) (by_block P none one n _ (behind s) (day_after day (body s)))))
    (λ e. rw e (none s day)) (cases (turn_taken room s))

shorter : (room : ℕ) (s : List ℕ) → turn_taken room s ≡ true → length (behind s) + 2 ≤ length s
shorter room s e = omega (arith, length-behind s (and_left (whole_block s) (nat_le refusal_size room) e))

-- more than there are changes nothing
ran-same : (n m room : ℕ) (s : List ℕ) (day : Day) → length s ≤ n → length s ≤ m → ran n room s day ≡ ran m room s day
unfolding ran
ran-same zero zero room s day p q = refl
ran-same zero (suc m) room s day p q = rw (not_whole s (omega arith))
ran-same (suc n) zero room s day p q = rw (not_whole s (omega arith))
ran-same (suc n) (suc m) room s day p q =
    ⊎_elim
    (λ e.
    let l = shorter room s e in
    rw (e, ran-same n m (room - length (record_of day (body s))) (behind s) (day_after day (body s)) (omega arith) (omega arith)))
    (λ e. rw e) (cases (turn_taken room s))

-- as many blocks as there are
pub through_takes : (room : ℕ) (s : List ℕ) (day : Day) → turn_taken room s ≡ true
    → ran_through room s day ≡ record_behind (record_of day (body s)) (ran_through (room - length (record_of day (body s))) (behind s) (day_after day (body s)))
through_takes room s day e =
    let l = shorter room s e in
    ran-same (length s) (suc (length s)) room s day (omega arith) (omega arith)
    ∙ ran_takes (length s) room s day e
    ∙ ap (record_behind (record_of day (body s))) (ran-same (length s) (length (behind s)) (room - length (record_of day (body s))) (behind s) (day_after day (body s)) (omega arith) (omega arith))

pub behind_twice : (a b : List ℕ) (x : Ran) → record_behind a (record_behind b x) ≡ record_behind (a ++ b) x
behind_twice a b x = rw append_assoc

-- ---- a message's record

pub record_fits : (day : Day) (s : List ℕ) → length (record_of day s) ≤ refusal_size
unfolding record_of
record_fits day s = go (numbered day s == 0)
  where
    go : (b : Bool) → length (cond b [] (refusal_record (more day.tally.messages) (numbered day s))) ≤ refusal_size
    go true = omega arith
    go false = omega (arith, length-refusal_record (more day.tally.messages) (numbered day s))
