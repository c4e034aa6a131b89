-- Tables made fresh are healthy, and every message keeps them so (runs, Healthy): through any run over bytes, and so through any day.
-- Of a healthy book every live slot is sound, so it can be read; and healthy tables give neither 13 nor 14. Assumes nothing.
use Rattle.std.specs.Prelude.{◌≡◌, refl, true, List, [], ℕ, length}
use Rattle.std.proofs.Common.{arith}
use borrow.Author.Tests.{eq-eqb, ne_eqb}
use Rattle.directory.specs.Directory.{most_numbers}
use Rattle.book.specs.Book.{most_words}
use Rattle.apply.specs.Runs.{Tables}
use Rattle.levels.specs.Totals.{total}
use Rattle.levels.specs.Levels.{unsoundness}
use Rattle.apply_theorems.specs.Means.{shaped_words}
use Rattle.moves.specs.Lawful.{Bytes}
use Rattle.runs.specs.Statements.{Start, Healthy}
use Rattle.runs.specs.Healthy.{Fitting, healthy_start, fitting_start, healthy_shaped, healthy_sound, healthy_after, fitting_after}
use Rattle.runs.specs.Damage.{healthy_few}
use Rattle.blocks.specs.Blocks.{body, behind}
use Rattle.feed.specs.Feed.{Day, day_after, ran}
use Rattle.feed.specs.FeedLaws.{by_block}
use Rattle.ladders.specs.Ladders.{readable}
use Rattle.replay_theorems.specs.Replay.{directory_numbers, book_words, fresh_day}
use Rattle.replay_theorems.specs.Statements.{Went, begins, reads, feeds, Readable, NeverRefused}
use Rattle.replay_theorems.specs.Heads.{bytes_none, bytes_both, bytes_first, bytes_last, bytes_body, bytes_behind}

-- the bytes held are bytes, and the tables are healthy and fit 64 bits
record Kept (n k : ℕ) (held : List ℕ) (day : Day) : Type 0 where
  bytes : Bytes held
  healthy : Healthy n k day.tables
  fitting : Fitting day.tables

module _ (n k : ℕ) (z : Start n k) where
  -- ---- through a run

  kept-after : (s : List ℕ) (day : Day) → Kept n k s day → Kept n k (behind s) (day_after day (body s))
  unfolding day_after
  kept-after s day h =
      let b = bytes_body s h.bytes in
      record {
        bytes = bytes_behind s h.bytes;
        healthy = healthy_after n k day.tables (body s) z h.healthy h.fitting b;
        fitting = fitting_after n k day.tables (body s) z h.healthy h.fitting b;
      }

  kept-ran : (fuel room : ℕ) (s : List ℕ) (day : Day) → Kept n k s day → Kept n k (ran fuel room s day).left (ran fuel room s day).day
  kept-ran =
      by_block (λ s day x. Kept n k s day → Kept n k x.left x.day) (λ s day h. h) (λ s day x w next h. next (kept-after s day h))

  -- ---- what it gives

  healthy_readable : (t : Tables) → Healthy n k t → readable t.book ≡ true
  unfolding readable
  healthy_readable t h =
      rw (shaped_words (healthy_shaped z h), ne_eqb k 0 (λ e. omega (arith, z.book.some)))
      (eq-eqb (total unsoundness t.book k) 0 (healthy_sound h))

-- ---- through a day

start_good : Start directory_numbers book_words
unfolding most_numbers most_words
start_good = record {
  directory = record { least = omega arith; most = omega arith };
  book = record { some = omega arith; few = omega arith; size = refl };
}

fresh_kept : Kept directory_numbers book_words [] fresh_day
unfolding fresh_day
fresh_kept =
    record {
      bytes = bytes_none;
      healthy = healthy_start directory_numbers book_words start_good;
      fitting = fitting_start directory_numbers book_words start_good;
    }

went_kept : {s held out : List ℕ} {day : Day} → Bytes s → Went s held day out → Kept directory_numbers book_words held day
went_kept y begins = fresh_kept
went_kept y (reads s held out t day g) =
    let h = went_kept (bytes_first s t y) g in
    record { bytes = bytes_both held t h.bytes (bytes_last s t y); healthy = h.healthy; fitting = h.fitting }
went_kept y (feeds s held out day room g) = kept-ran directory_numbers book_words start_good (length held) room held day (went_kept y g)

-- THEOREM: the book can always be read
pub readable_always : Readable
readable_always s held out day y g = healthy_readable directory_numbers book_words start_good day.tables (went_kept y g).healthy

-- THEOREM: no message is refused with 13 or 14
pub no_damage : NeverRefused
no_damage s held out m day y g =
    let few = healthy_few directory_numbers book_words day.tables m start_good (went_kept y g).healthy in
    (λ e. omega (arith, few, e), λ e. omega (arith, few, e))
