-- At any time of a day, what was written and then the run throughout what is held, with any bytes to come, are the run throughout all
-- the bytes (`went_all`). So once no whole block is held all was written that the input fixes, but for the end. Assumes nothing.
use Rattle.std.specs.Prelude.{◌≡◌, refl, false, List, [], ◌++◌, ℕ, length}
use Rattle.std.proofs.Common.{sym, ap, ◌∙◌, append-nil, append_assoc}
use Rattle.blocks.specs.Blocks.{whole_block}
use Rattle.feed.specs.Feed.{Day, record_behind, ran_through}
use Rattle.feed.specs.FeedLaws.{behind_twice}
use Rattle.replay_theorems.specs.Replay.{fresh_day, ended, replayed}
use Rattle.replay_theorems.specs.Statements.{Went, begins, reads, feeds, Replays}
use Rattle.replay_theorems.specs.RanLaws.{throughout, throughout_stops, cut}
use Rattle.replay_theorems.proofs.Kept.{readable_always}
use Rattle.replay_theorems.proofs.Listing.{all_listed}

went_all : {s held out : List ℕ} {day : Day} → Went s held day out → (t : List ℕ)
    → throughout (s ++ t) fresh_day ≡ record_behind out (throughout (held ++ t) day)
went_all begins t = refl
went_all (reads s held out more day g) t = rw (append_assoc s more t, append_assoc held more t) (went_all g (more ++ t))
went_all (feeds s held out day room g) t =
    let x = ran_through room held day in
    went_all g t ∙ ap (record_behind out) (cut (length held) room held t day)
    ∙ behind_twice out x.records (throughout (x.left ++ t) x.day)

-- no whole block is held: that is all
went_done : {s held out : List ℕ} {day : Day} → Went s held day out → whole_block held ≡ false
    → throughout s fresh_day ≡ record { records = out; left = held; day = day }
went_done {s} {held} {out} {day} g e =
    simp append-nil at (went_all g []) ∙ ap (record_behind out) (throughout_stops held day e) ∙ rw append-nil

-- THEOREM: what is written is what the input fixes
pub replays : Replays
unfolding replayed ended
replays s held out rows day y g e l =
    rw (all_listed day.tables.book rows (readable_always s held out day y g) l)
    (sym (ap (λ x. x.records ++ ended x.left x.day) (went_done g e)))
