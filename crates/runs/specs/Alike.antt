-- SLOTS DO NOT SHOW (`alike_slots`, `alike_step`): a verdict is made of the directory, of what is seen under references, and of whether
-- there is room. Tables that are alike agree on these, so they give one verdict, and it moves their totals alike. Assumes nothing.
use Rattle.std.specs.Prelude.{◌≡◌, refl, ◌≢◌, Bool, true, false, not, List, ℕ, ◌*◌, ltb, Result, Ok, Err}
use Rattle.std.proofs.Common.{sym, ap, ◌∙◌, arith}
use Rattle.messages.specs.declared.Message.{Message}
use Rattle.book.specs.Book.{find, lowest_free}
use Rattle.directory.specs.Directory.{entry_at, is_symbol}
use Rattle.orders.specs.declared.Order.{Order}
use Rattle.decide.specs.Decide.{Verdict, enter, gate, step_of, is_registered, placing, taking, closing, replacing}
use Rattle.slots.specs.Stored.{is_at, seen_in}
use Rattle.enroll.specs.Enrolled.{enrolled}
use Rattle.take.specs.Taken.{taken_by}
use Rattle.reader.specs.Read.{answer}
use Rattle.steps.specs.Asked.{Asked, register, start, take, close, replace, nothing, asked}
use Rattle.steps.specs.Steps.{verdict_on}
use Rattle.apply.specs.Apply.{After, concluded, number_of}
use Rattle.apply.specs.Runs.{Tables, tables_after, answer_to}
use Rattle.levels.specs.Totals.{total}
use Rattle.moves.specs.Lawful.{Bytes}
use Rattle.moves.specs.Moves.{taken_out, put_in}
use Rattle.runs.specs.Statements.{Start, SameOrders, Alike, StepsAlike, BothRoom}
use Rattle.runs.specs.Healthy.{Fitting, healthy_after}
use Rattle.runs.specs.OneMessage.{step_unread, step_read, step_moved}
use Rattle.runs.specs.SameSeen.{found_seen}
use Rattle.runs.specs.AlikeAsks.{alike_seen, count_same}
use Rattle.runs.specs.Room.{room_count}
use Rattle.refusals.specs.declared.Refusal.{Refusal}
use Rattle.refusals.specs.declared.Refusal.TheVariants.{Conflict, Duplicate, Full, Stock}

-- ---- the verdict

-- the number of an answer
abbrev answer_number : Message → Verdict → ℕ
answer_number x v = number_of (concluded x (step_of v))

-- the gates of A and F
abbrev gates : Bool → Bool → Bool → Bool → Order → Verdict
gates registered listed fresh room o = gate registered Stock (gate listed Conflict (gate fresh Duplicate (gate room Full (enter o))))

-- A and F, where FULL is not what is answered: room or none, the verdict is one
roomy : (m : Message) (registered listed fresh p q : Bool) (o : Order) → answer_number m (gates registered listed fresh p o) ≢ 12
    → answer_number m (gates registered listed fresh q o) ≢ 12 → gates registered listed fresh p o ≡ gates registered listed fresh q o
roomy m false listed fresh p q o e f = refl
roomy m true false fresh p q o e f = refl
roomy m true true false p q o e f = refl
roomy m true true true false q o e f = absurd (e refl)
roomy m true true true true false o e f = absurd (f refl)
roomy m true true true true true o e f = refl

-- what starts an order aside, room does not matter
judged-same : (d b : List ℕ) (k : ℕ) (c : List ℕ) (m : ℕ) → ((r : ℕ) → seen_in b k (find b k r) ≡ seen_in c m (find c m r)) → (a : Asked)
    → ((o : Order) (symbol : ℕ) → a ≡ start o symbol → verdict_on d b k (start o symbol) ≡ verdict_on d c m (start o symbol))
    → verdict_on d b k a ≡ verdict_on d c m a
judged-same d b k c m seen (register l symbol) starts = refl
judged-same d b k c m seen (start o symbol) starts = starts o symbol refl
judged-same d b k c m seen (take how r l n) starts = ap (taking (taken_by how) l n) (seen r)
judged-same d b k c m seen (close r l) starts = ap (closing l) (seen r)
judged-same d b k c m seen (replace original new l n p) starts =
    let found = found_seen b k c m (find b k new) (find c m new) (seen new) in
    λ i. replacing l original new n p (found i) (seen original i)
judged-same d b k c m seen nothing starts = refl

-- ---- one verdict moves alike

module _ (n k m : ℕ) (t u : Tables) (s : List ℕ) (z : Start n k) (y : Start n m) (a : Alike n k m t u)
    (f : Fitting t) (g : Fitting u) (bytes : Bytes s) where
  abbrev SameVerdict : Message → Type 0
  SameVerdict x = verdict_on t.directory t.book k (asked x) ≡ verdict_on u.directory u.book m (asked x)

  steps_alike : ((x : Message) → answer s ≡ Ok x → SameVerdict x) → StepsAlike n k m t u s
  steps_alike same = go (answer s) refl
    where
      alike : answer_to t s ≡ answer_to u s → (tables_after t s).directory ≡ (tables_after u s).directory
          → SameOrders (tables_after t s).book k (tables_after u s).book m → StepsAlike n k m t u s
      alike e d o = record {
        answer = e;
        tables = record {
          directory = d;
          first = healthy_after n k t s z a.first f bytes;
          second = healthy_after n m u s y a.second g bytes;
          orders = o;
        };
      }

      go : (x : Result Message Refusal) → answer s ≡ x → StepsAlike n k m t u s
      go (Err r) e =
          let p = step_unread z a.first s r e in
          let q = step_unread y a.second s r e in
          alike (ap (λ (x : After). x.outcome) p ∙ sym (ap (λ (x : After). x.outcome) q))
          (ap (λ (x : After). x.directory) p ∙ a.directory ∙ sym (ap (λ (x : After). x.directory) q))
          (λ w. ap (λ (x : After). total w x.book k) p ∙ a.orders w ∙ sym (ap (λ (x : After). total w x.book m) q))
      go (Ok x) e =
          let p = step_read z a.first s x e in
          let q = step_read y a.second s x e in
          let v = same x e in
          let mt = step_moved z a.first f s x bytes e in
          let mu = step_moved y a.second g s x bytes e in
          alike
          (ap (λ (x : After). x.outcome) p ∙ ap (λ (v : Verdict). concluded x (step_of v)) v ∙ sym (ap (λ (x : After). x.outcome) q))
          (ap (λ (x : After). x.directory) p ∙ (λ i. enrolled (a.directory i) (v i)) ∙ sym (ap (λ (x : After). x.directory) q))
          (λ w. omega (arith, mt.took w, mt.gave w, mu.took w, mu.gave w, a.orders w, ap (taken_out w) v, ap (put_in w) v))

  -- the verdict, but for room
  verdict-same : (x : Message)
      → ((o : Order) (symbol : ℕ) → asked x ≡ start o symbol
      → verdict_on t.directory t.book k (start o symbol) ≡ verdict_on t.directory u.book m (start o symbol))
      → SameVerdict x
  verdict-same x starts =
      judged-same t.directory t.book k u.book m (alike_seen a) (asked x) starts
      ∙ ap (λ (d : List ℕ). verdict_on d u.book m (asked x)) a.directory

-- ---- the two theorems

-- books of any two sizes, where neither is full
pub alike_step : (n k m : ℕ) (t u : Tables) (s : List ℕ) → Start n k → Start n m → Alike n k m t u → Fitting t → Fitting u → Bytes s
    → BothRoom t u s → StepsAlike n k m t u s
alike_step n k m t u s z y a f g bytes room =
    steps_alike n k m t u s z y a f g bytes λ x e. verdict-same n k m t u s z y a f g bytes x (starts x e)
  where
    d : List ℕ
    d = t.directory

    starts : (x : Message) → answer s ≡ Ok x → (o : Order) (symbol : ℕ) → asked x ≡ start o symbol
        → verdict_on d t.book k (start o symbol) ≡ verdict_on d u.book m (start o symbol)
    starts x e o symbol q =
        let r = o.reference.0 in
        let entry = entry_at d o.locate.0 in
        let found = found_seen t.book k u.book m (find t.book k r) (find u.book m r) (alike_seen a r) in
        let room_of_lem : Bool = is_at (lowest_free t.book k) in
        let first : verdict_on d t.book k (start o symbol) ≡ placing entry symbol (is_at (find u.book m r)) room_of_lem o =
        λ i. placing entry symbol (found i) room_of_lem o in
        let left : number_of (answer_to t s) ≡ answer_number x (verdict_on d t.book k (start o symbol)) =
        ap (λ (p : After). number_of p.outcome) (step_read z a.first s x e)
        ∙ ap (λ (c : Asked). answer_number x (verdict_on d t.book k c)) q in
        let right : number_of (answer_to u s) ≡ answer_number x (verdict_on d u.book m (start o symbol)) =
        ap (λ (p : After). number_of p.outcome) (step_read y a.second s x e)
        ∙ ap (λ (c : Asked). answer_number x (verdict_on u.directory u.book m c)) q
        ∙ ap (λ (d : List ℕ). answer_number x (verdict_on d u.book m (start o symbol))) (sym a.directory) in
        first
        ∙ roomy x (is_registered entry) (is_symbol symbol entry) (not (is_at (find u.book m r)))
        room_of_lem (is_at (lowest_free u.book m)) o
        (λ h. room.0 (left ∙ ap (answer_number x) first ∙ h)) (λ h. room.1 (right ∙ h))

-- books of one size: as many live orders, so as much room
pub alike_slots : (n k : ℕ) (t u : Tables) (s : List ℕ) → Start n k → Alike n k k t u → Fitting t → Fitting u → Bytes s
    → StepsAlike n k k t u s
alike_slots n k t u s z a f g bytes =
    steps_alike n k k t u s z z a f g bytes λ x e. verdict-same n k k t u s z z a f g bytes x λ o symbol q.
    let r = o.reference.0 in
    let found = found_seen t.book k u.book k (find t.book k r) (find u.book k r) (alike_seen a r) in
    λ i. placing (entry_at t.directory o.locate.0) symbol (found i) (room i) o
  where
    room : is_at (lowest_free t.book k) ≡ is_at (lowest_free u.book k)
    room =
        room_count t.book k
        ∙ ap (λ (c : ℕ). ltb c (64 * k)) (count_same t.book k u.book k a.orders)
        ∙ sym (room_count u.book k)
