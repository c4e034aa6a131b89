-- Two ends of a call that its contract allows for one input are one: each contract states the whole end as what the input fixes.
-- Assumes nothing.
use Rattle.std.specs.Prelude.{◌≡◌, Option, List, ℕ, ◌/◌, length}
use Rattle.std.proofs.Common.{sym, ap, ◌∙◌}
use Rattle.apply.specs.Runs.{Tables}
use Rattle.std.specs.declared.ops.Range.{Range}
use Rattle.blocks.specs.Blocks.{block_at}
use Rattle.records.specs.Records.{level_size}
use Rattle.feed.specs.declared.Tally.{Tally}
use Rattle.feed.specs.declared.Fed.{Fed}
use Rattle.feed.specs.Feed.{Day, ran_through}
use Rattle.feed.specs.Feed as feed
use Rattle.ladders.specs.declared.Filled.{Filled}
use Rattle.ladders.specs.Ladders.{first_of, shown}
use Rattle.ladders.specs.Ladders as ladders

-- two ends of which a contract says that each is x: so those of a record's layout, and of a record appended
pub unique : {A : Type 0} {r r' x : A} → r ≡ x → r' ≡ x → r ≡ r'
unique p q = p ∙ sym q

-- ---- a block

pub block_unique : (s : List ℕ) (at : ℕ) (r r' : Option (Range ℕ)) → r ≡ block_at s at → r' ≡ block_at s at → r ≡ r'
block_unique s at r r' p q = unique p q

-- ---- whole blocks applied, and the end of the input

pub record SameFed (r r' : Fed) (t t' : Tables) (o o' : List ℕ) : Type 0 where
  pub fed : r ≡ r'
  pub tables : t ≡ t'
  pub out : o ≡ o'

pub feed_unique : (s out : List ℕ) (day : Day) (r r' : Fed) (t t' : Tables) (o o' : List ℕ)
    → record { fed = r; tables = t; out = o } ≡ feed.feed_leaves s out (ran_through (length out) s day)
    → record { fed = r'; tables = t'; out = o' } ≡ feed.feed_leaves s out (ran_through (length out) s day)
    → SameFed r r' t t' o o'
feed_unique s out day r r' t t' o o' p q =
    let e = unique p q in
    record {
      fed = ap (λ (x : feed.FeedLeaves). x.fed) e;
      tables = ap (λ (x : feed.FeedLeaves). x.tables) e;
      out = ap (λ (x : feed.FeedLeaves). x.out) e;
    }

pub record SameClose (r r' : Fed) (o o' : List ℕ) : Type 0 where
  pub fed : r ≡ r'
  pub out : o ≡ o'

pub close_unique : (left : ℕ) (t : Tally) (out : List ℕ) (r r' : Fed) (o o' : List ℕ)
    → record { fed = r; out = o } ≡ feed.closes left t out → record { fed = r'; out = o' } ≡ feed.closes left t out → SameClose r r' o o'
close_unique left t out r r' o o' p q =
    let e = unique p q in
    record { fed = ap (λ (x : feed.Closes). x.fed) e; out = ap (λ (x : feed.Closes). x.out) e }

-- ---- levels

pub record SameFilled (r r' : Filled) (o o' : List ℕ) : Type 0 where
  pub filled : r ≡ r'
  pub out : o ≡ o'

pub fill_unique : (b out : List ℕ) (from locates : ℕ) (r r' : Filled) (o o' : List ℕ)
    → record { filled = r; out = o } ≡ ladders.fill_leaves out (shown (length out / level_size) b from (first_of locates))
    → record { filled = r'; out = o' } ≡ ladders.fill_leaves out (shown (length out / level_size) b from (first_of locates))
    → SameFilled r r' o o'
fill_unique b out from locates r r' o o' p q =
    let e = unique p q in
    record { filled = ap (λ (x : ladders.FillLeaves). x.filled) e; out = ap (λ (x : ladders.FillLeaves). x.out) e }
