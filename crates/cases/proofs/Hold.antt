-- THE CLAIM: every row of the table of starred cases holds. One test computes them all, and a law takes it to each row.
-- Assumes nothing.
use Rattle.std.specs.Prelude.{◌≡◌, refl, Bool, true, false, ◌&&◌, ℕ, eqb, replicate, Result}
use Rattle.std.proofs.Common.{ap₂, eqb-true}
use Rattle.std.proofs.lemmas.Bool.{false≢true}
use mathlib.Core.List.Memᴰ.{head as here}
use mathlib.Core.List.Memᴰ.{tail as there}
use mathlib.Core.List.{List, [], ◌∷◌, Memᴰ as Among}
use Rattle.laws.specs.Bools.{and_left, and_right}
use Rattle.laws.specs.Field.{field}
use Rattle.laws.specs.Definitions.{bit, set_bit, clear_bit, least, pick_n, sum_to}
use Rattle.kinds.specs.Admission.{maximum}
use Rattle.kinds.specs.Sides.{good_side}
use Rattle.text.specs.Text.{letter, letters, text}
use Rattle.layout.specs.Layout.{length_of}
use Rattle.wellformed.specs.WellFormed.{good_time, good_shares, good_price, good_printable, refusal}
use Rattle.reader.specs.Read.{judged_as, answer}
use Rattle.slots.specs.Stored.{entered, held_at, kept, put_order}
use Rattle.numbers.specs.Shown.{answer_number}
use Rattle.directory.specs.Directory.{most_numbers, good_length, entry_at, registered}
use Rattle.book.specs.Book.{most_words, words_of, live, number_at, holds, is_free, found_below, find, lowest_free, four, put_slot, clear_slot}
use Rattle.orders.specs.Order.{remaining, executed_by, cancelled_by, closed_of, second, third, fourth, sound, order_of, held}
use Rattle.fresh.specs.Fresh.{good_shapes, made_number, made_of}
use Rattle.apply.specs.Apply.{applied, number_of}
use Rattle.apply.specs.Runs.{Tables, fresh_tables, tables_after, answer_to}
use Rattle.accounts.specs.Accounts.{order_asked}
use Rattle.levels.specs.Levels.{level_at, level_of}
use Rattle.levels.specs.Totals.{total, weighed}
use Rattle.replies.specs.Replies.{account_number, account_row, quote_number, level_row}
use Rattle.outcomes.specs.Outcomes.{order_row}
use Rattle.cases.specs.Table.{Case, read, run, account, level, shape, table}
use Rattle.cases.specs.Hold.{tables, Left, Holds}
use Rattle.apply.specs.declared.Outcome.{Outcome}
use Rattle.refusals.specs.declared.Refusal.{Refusal}

-- ---- the same as a test

abbrev same : List ℕ → List ℕ → Bool
same [] [] = true
same [] (y ∷ ys) = false
same (x ∷ xs) [] = false
same (x ∷ xs) (y ∷ ys) = eqb x y && same xs ys

same_true : (xs ys : List ℕ) → same xs ys ≡ true → xs ≡ ys
same_true [] [] e = refl
same_true [] (y ∷ ys) e = absurd (false≢true e)
same_true (x ∷ xs) [] e = absurd (false≢true e)
same_true (x ∷ xs) (y ∷ ys) e =
    ap₂ ◌∷◌ (eqb-true x y (and_left (eqb x y) (same xs ys) e)) (same_true xs ys (and_right (eqb x y) (same xs ys) e))

abbrev ran : Result Outcome Refusal → Tables → ℕ → List ℕ → List ℕ → List ℕ → Bool
ran o t n figures d b = eqb (number_of o) n && (same (order_row o) figures && (same t.directory d && same t.book b))

abbrev passes : Case → Bool
passes (read s n) = eqb (answer_number (answer s)) n
passes (run ms s n figures d b) = ran (answer_to (tables ms) s) (tables_after (tables ms) s) n figures d b
passes (account ms r n values) = eqb (account_number (order_asked (tables ms).book r)) n && same (account_row (order_asked (tables ms).book r)) values
passes (level ms l side p n values) =
    eqb (quote_number (level_of (tables ms).book l side p)) n && same (level_row (level_of (tables ms).book l side p)) values
passes (shape d b n m) =
    eqb (made_number (made_of (replicate d 0) (replicate b 0))) n && eqb (number_of (answer_to (fresh_tables d b) [])) m

abbrev all_pass : List Case → Bool
all_pass [] = true
all_pass (c ∷ cs) = passes c && all_pass cs

computed : all_pass table ≡ true
unfolding answer length_of judged_as refusal field good_time good_shares good_price good_side good_printable text letters letter maximum
    most_numbers good_length entry_at registered most_words words_of live number_at holds is_free found_below find lowest_free four put_slot clear_slot
    bit set_bit clear_bit least pick_n remaining executed_by cancelled_by closed_of second third fourth sound order_of held held_at put_order entered
    kept good_shapes made_of applied order_asked level_of level_at total weighed sum_to
computed = refl

-- ---- and back

ran_left : (o : Result Outcome Refusal) (t : Tables) (n : ℕ) (figures d b : List ℕ) → ran o t n figures d b ≡ true → Left o t n figures d b
ran_left o t n figures d b e =
    let t0 = eqb (number_of o) n in
    let t1 = same (order_row o) figures in
    let t2 = same t.directory d in
    let t3 = same t.book b in
    let e1 = and_right t0 (t1 && (t2 && t3)) e in
    let e2 = and_right t1 (t2 && t3) e1 in
    record {
      number = eqb-true (number_of o) n (and_left t0 (t1 && (t2 && t3)) e);
      orders = same_true (order_row o) figures (and_left t1 (t2 && t3) e1);
      directory = same_true t.directory d (and_left t2 t3 e2);
      book = same_true t.book b (and_right t2 t3 e2);
    }

both : (x n : ℕ) (xs ys : List ℕ) → eqb x n && same xs ys ≡ true → (x ≡ n) × (xs ≡ ys)
both x n xs ys e =
    (eqb-true x n (and_left (eqb x n) (same xs ys) e), same_true xs ys (and_right (eqb x n) (same xs ys) e))

means : (c : Case) → passes c ≡ true → Holds c
means (read s n) e = eqb-true (answer_number (answer s)) n e
means (run ms s n figures d b) e = ran_left (answer_to (tables ms) s) (tables_after (tables ms) s) n figures d b e
means (account ms r n values) e = both (account_number (order_asked (tables ms).book r)) n (account_row (order_asked (tables ms).book r)) values e
means (level ms l side p n values) e = both (quote_number (level_of (tables ms).book l side p)) n (level_row (level_of (tables ms).book l side p)) values e
means (shape d b n m) e =
    let x = made_number (made_of (replicate d 0) (replicate b 0)) in
    let y = number_of (answer_to (fresh_tables d b) []) in
    (eqb-true x n (and_left (eqb x n) (eqb y m) e), eqb-true y m (and_right (eqb x n) (eqb y m) e))

passed : {c : Case} {cs : List Case} → all_pass cs ≡ true → Among c cs → passes c ≡ true
passed e (here {x = x} {xs = xs} q) = rw q (and_left (passes x) (all_pass xs) e)
passed e (there {x = x} {xs = xs} m) = passed (and_right (passes x) (all_pass xs) e) m

pub cases_hold : (c : Case) → Among c table → Holds c
cases_hold c m = means c (passed computed m)
