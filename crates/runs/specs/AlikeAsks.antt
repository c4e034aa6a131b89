-- ALL QUESTIONS ARE ANSWERED ALIKE (`asks_alike`) by healthy books with the same orders: in a healthy book 13 and 14 are never given, and
-- every answer is made of totals and of what is seen under a reference. Assumes nothing.
use Rattle.refusals.specs.declared.Refusal.TheVariants.{Field}
use Rattle.std.specs.Prelude.{◌≡◌, Bool, true, false, cond, ◌&&◌, List, ℕ, ◌*◌, eqb, length, Option, Result, Some, Ok}
use Rattle.std.proofs.Common.{sym, ap, ◌∙◌, arith, eq-eqb, ne_eqb}
use Rattle.std.proofs.Math.Dec.{ltb}
use Rattle.laws.specs.Sum.{sum_ext}
use Rattle.kinds.specs.declared.Side.{Side}
use Rattle.kinds.specs.declared.Side.TheVariants.{Buy, Sell}
use Rattle.kinds.specs.Sides.{side_of, good_side}
use Rattle.book.specs.Book.{live, find, words_of}
use Rattle.slots.specs.Stored.{seen_in}
use Rattle.apply.specs.Runs.{Tables}
use Rattle.accounts.specs.Accounts.{accounted, order_asked}
use Rattle.census.specs.Census.{live_count, count_asked}
use Rattle.levels.specs.Levels.{shares_at, orders_at, unsoundness, level_at, some_at, highest, lowest, all_prices, best_where, better}
use Rattle.levels.specs.Levels.{no_quote, checked, level_of, best_of, next_of}
use Rattle.levels.specs.Totals.{weighed, total}
use Rattle.runs.specs.Statements.{Start, Healthy, SameOrders, Alike, AskedAlike}
use Rattle.runs.specs.Healthy.{healthy_sound}
use Rattle.runs.specs.OneMessage.{words}
use Rattle.runs.specs.SameSeen.{seen_same}
use Rattle.levels.specs.declared.Level.{Level}
use Rattle.refusals.specs.declared.Refusal.{Refusal}

-- ---- one healthy book

module _ {n k : ℕ} {t : Tables} (z : Start n k) (h : Healthy n k t) where
  some_words : eqb k 0 ≡ false
  some_words = ne_eqb k 0 (λ e. omega (arith, z.book.some))

  -- a question about levels is refused only for its side
  checked_side : (byte : ℕ) (q : ℕ → Result (Option Level) Refusal)
      → checked t.book byte (q (words_of (length t.book))) ≡ cond (good_side byte) (q k) (no_quote Field)
  checked_side byte q = rw (words z h, some_words, eq-eqb (total unsoundness t.book k) 0 (healthy_sound h))

  pub order_seen : (r : ℕ) → order_asked t.book r ≡ accounted (seen_in t.book k (find t.book k r))
  unfolding order_asked
  order_seen r = rw (words z h, some_words)

  pub level_stands : (l byte p : ℕ)
      → level_of t.book l byte p ≡ cond (good_side byte) (Ok (Some (level_at t.book k l (side_of byte) p))) (no_quote Field)
  unfolding level_of
  level_stands l byte p = checked_side byte (λ i. (Ok (Some (level_at t.book i l (side_of byte) p))))

  count_live : count_asked t.book ≡ Ok (live_count t.book k)
  unfolding count_asked
  count_live = rw (words z h, some_words)

-- the live count is the total of the weight 1
pub count_total : (b : List ℕ) (k : ℕ) → live_count b k ≡ total (λ h. 1) b k
unfolding live_count total weighed
count_total b k = sum_ext (live b) (weighed (λ h. 1) b k) (64 * k) λ s l. omega arith

-- ---- two books

-- levels are made of the totals of their shares and orders
pub level_same : (b : List ℕ) (k : ℕ) (c : List ℕ) (m l : ℕ) (side : Side) (p : ℕ)
    → total (shares_at l side p) b k ≡ total (shares_at l side p) c m → total (orders_at l side p) b k ≡ total (orders_at l side p) c m
    → level_at b k l side p ≡ level_at c m l side p
unfolding level_at
level_same b k c m l side p e f = λ i. record { price = p; shares = e i; orders = f i }

module _ (b : List ℕ) (k : ℕ) (c : List ℕ) (m : ℕ) (same : SameOrders b k c m) where
  levels : (l : ℕ) (side : Side) (p : ℕ) → level_at b k l side p ≡ level_at c m l side p
  levels l side p = level_same b k c m l side p (same (shares_at l side p)) (same (orders_at l side p))

  where_same : (l : ℕ) (side : Side) (passes : ℕ → Bool) → best_where b k l side passes ≡ best_where c m l side passes
  unfolding best_where some_at
  where_same l Buy passes = λ i. highest (λ p. passes p && ltb 0 (same (orders_at l Buy p) i)) (λ p. levels l Buy p i) all_prices
  where_same l Sell passes = λ i. lowest (λ p. passes p && ltb 0 (same (orders_at l Sell p) i)) (λ p. levels l Sell p i) all_prices

  pub count_same : live_count b k ≡ live_count c m
  count_same = count_total b k ∙ same (λ h. 1) ∙ sym (count_total c m)

-- the same orders stand under each reference
pub alike_seen : {n k m : ℕ} {t u : Tables} → Alike n k m t u → (r : ℕ)
    → seen_in t.book k (find t.book k r) ≡ seen_in u.book m (find u.book m r)
alike_seen {n} {k} {m} {t} {u} a r = seen_same n k n m t u r a.first a.second (λ o e. a.orders _)

pub asks_alike : (n k m : ℕ) (t u : Tables) → Start n k → Start n m → Alike n k m t u → AskedAlike t.book u.book
unfolding best_of next_of
asks_alike n k m t u z y a = record {
  order = λ r. order_seen z a.first r ∙ ap accounted (alike_seen a r) ∙ sym (order_seen y a.second r);
  level = λ l byte p.
      level_stands z a.first l byte p
      ∙ ap (λ x. cond (good_side byte) (Ok (Some x)) (no_quote Field)) (levels t.book k u.book m a.orders l (side_of byte) p)
      ∙ sym (level_stands y a.second l byte p);
  best = λ l byte. where_alike l byte (λ p. true);
  next = λ l byte p. where_alike l byte (better (side_of byte) p);
  count = count_live z a.first ∙ ap Ok (count_same t.book k u.book m a.orders) ∙ sym (count_live y a.second);
}
  where
    where_alike : (l byte : ℕ) (passes : ℕ → Bool)
        → checked t.book byte (best_where t.book (words_of (length t.book)) l (side_of byte) passes)
        ≡ checked u.book byte (best_where u.book (words_of (length u.book)) l (side_of byte) passes)
    where_alike l byte passes =
        checked_side z a.first byte (λ i. best_where t.book i l (side_of byte) passes)
        ∙ ap (λ x. cond (good_side byte) x (no_quote Field)) (where_same t.book k u.book m a.orders l (side_of byte) passes)
        ∙ sym (checked_side y a.second byte (λ i. best_where u.book i l (side_of byte) passes))
