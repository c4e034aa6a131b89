-- A run throughout takes every message of its input. A call with room for a record for each byte is one (`enough_room`); and wherever a
-- run is cut, a run throughout over what it left, with any bytes behind, is its rest (`cut`). Assumes nothing.
use Rattle.std.specs.Prelude.{◌≡◌, refl, true, false, List, ◌++◌, ℕ, zero, suc, ◌-◌, ◌*◌, ◌≤◌, length}
use Rattle.std.proofs.Common.{sym, ap, ◌∙◌, ⊎_elim, arith, le-leb}
use Rattle.laws.specs.Bools.{cases}
use Rattle.blocks.specs.Blocks.{whole_block, body, behind, messages_of, left_of}
use Rattle.blocks.specs.BlockLaws.{not_whole, length-behind, no_message_lem, first-message}
use Rattle.records.specs.Records.{refusal_size}
use Rattle.feed.specs.Feed.{Day, Ran, day_after, day_through, record_behind, record_of, records_of, ran}
use Rattle.feed.specs.FeedLaws.{still, ran_stops, ran_takes, by_block, behind_twice, record_fits}
use Rattle.replay_theorems.specs.Statements.{EnoughRoom}
use Rattle.replay_theorems.specs.Heads.{whole_append, body-append, behind-append}

-- ---- throughout

-- every message of the input, whatever the room
abbrev pub throughout : List ℕ → Day → Ran
throughout s day = record { records = records_of day (messages_of s); left = left_of s; day = day_through day (messages_of s) }

pub throughout_stops : (s : List ℕ) (day : Day) → whole_block s ≡ false → throughout s day ≡ still s day
throughout_stops s day w = let m = no_message_lem s w in rw (m.0, m.1)

throughout_goes : (s : List ℕ) (day : Day) → whole_block s ≡ true
    → throughout s day ≡ record_behind (record_of day (body s)) (throughout (behind s) (day_after day (body s)))
throughout_goes s day w = let m = first-message s w in rw (m.0, m.1)

-- ---- with enough room

ran_part : (n room : ℕ) (s : List ℕ) (day : Day) → whole_block s ≡ false → ran n room s day ≡ throughout s day
ran_part n room s day w = ran_stops n room s day (rw w) ∙ sym (throughout_stops s day w)

ran-throughout : (n room : ℕ) (s : List ℕ) (day : Day) → length s ≤ n → refusal_size * length s ≤ room → ran n room s day ≡ throughout s day
ran-throughout zero room s day l r = ran_part zero room s day (not_whole s (omega arith))
ran-throughout (suc n) room s day l r =
    ⊎_elim
    (λ w.
    let first = record_of day (body s) in
    let b = length-behind s w in
    ran_takes n room s day (rw (w, le-leb refusal_size room (omega arith)))
    ∙ ap (record_behind first) (ran-throughout n (room - length first) (behind s) (day_after day (body s)) (omega arith) (omega (arith, record_fits day (body s))))
    ∙ sym (throughout_goes s day w))
    (ran_part (suc n) room s day)
    (cases (whole_block s))

-- THEOREM: a call with room enough takes every message
pub enough_room : EnoughRoom
enough_room room s day r = ran-throughout (length s) room s day (omega arith) r

-- ---- wherever it is cut

-- a run, and then throughout what it left with more behind
abbrev pub resumed : Ran → List ℕ → Ran
resumed x t = record_behind x.records (throughout (x.left ++ t) x.day)

cut_block : (s t : List ℕ) (day : Day) (x : Ran) → whole_block s ≡ true → throughout (behind s ++ t) (day_after day (body s)) ≡ resumed x t
    → throughout (s ++ t) day ≡ resumed (record_behind (record_of day (body s)) x) t
cut_block s t day x w h =
    let here : throughout (s ++ t) day ≡ record_behind (record_of day (body s)) (throughout (behind s ++ t) (day_after day (body s))) =
    rw (← (body-append s t w), ← (behind-append s t w)) (throughout_goes (s ++ t) day (whole_append s t w)) in
    here ∙ ap (record_behind (record_of day (body s))) h
    ∙ behind_twice (record_of day (body s)) x.records (throughout (x.left ++ t) x.day)

-- LAW: a run however short, with more bytes to come, and then its rest, are one run
pub cut : (n room : ℕ) (s t : List ℕ) (day : Day) → throughout (s ++ t) day ≡ resumed (ran n room s day) t
cut n room s t day =
    by_block (λ s day x. throughout (s ++ t) day ≡ resumed x t) (λ s day. refl) (λ s day x. cut_block s t day x) n room s day
