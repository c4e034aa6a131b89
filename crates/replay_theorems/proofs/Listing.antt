-- However the buffers fill, what they were filled with and the levels from the rung to go on from are all the levels; at the last
-- rung there are none left. Assumes nothing.
use Rattle.std.specs.Prelude.{◌≡◌, refl, true, List, [], ◌++◌, ℕ, ◌-◌, ◌≤◌, length}
use Rattle.std.proofs.Common.{sym, ap, ◌∙◌, append-nil, append_assoc, arith}
use Rattle.book.specs.Book.{words_of}
use Rattle.ladders.specs.Ladders.{first_of, readable, levels_from, shown}
use Rattle.ladders.specs.LadderLaws.{shown-le, shown_all}
use Rattle.replay_theorems.specs.Replay.{locates, all_levels}
use Rattle.replay_theorems.specs.Statements.{LevelsWritten, begins, fills}

-- the levels from a rung on
abbrev on_from : List ℕ → ℕ → List ℕ
on_from b p = levels_from b (words_of (length b)) p (first_of locates - p)

-- where the listing stands: its rung, and that the levels from there on are what is left
record Stands (b : List ℕ) (p : ℕ) (out : List ℕ) : Type 0 where
  inside : p ≤ first_of locates
  rest : all_levels b ≡ out ++ on_from b p

stands_first : (b : List ℕ) → Stands b (first_of 1) []
unfolding all_levels
stands_first b = record { inside = omega arith; rest = refl }

none_left : (b : List ℕ) → on_from b (first_of locates) ≡ []
unfolding levels_from
none_left b = refl

listed_stands : (b : List ℕ) {p : ℕ} {out : List ℕ} → readable b ≡ true → LevelsWritten b p out → Stands b p out
listed_stands b r begins = stands_first b
listed_stands b r (fills p n out g) =
    let h = listed_stands b r g in
    let x = shown n b p (first_of locates) in
    record {
      inside = shown-le n b p (first_of locates) h.inside;
      rest =
          h.rest ∙ ap (λ (l : List ℕ). out ++ l) (shown_all n b p (first_of locates) r h.inside)
          ∙ sym (append_assoc out x.records (on_from b x.rung));
    }

-- at the end everything is listed
pub all_listed : (b rows : List ℕ) → readable b ≡ true → LevelsWritten b (first_of locates) rows → rows ≡ all_levels b
all_listed b rows r g = sym ((listed_stands b r g).rest ∙ rw (none_left b) (append-nil rows))
