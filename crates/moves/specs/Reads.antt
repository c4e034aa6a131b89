-- What reading has made sure of: number i of a message that was read is what stands at cell i of its type's row, so it is good
-- for the cell's kind and fits the cell's width (`read_at`). Each thing that a message may ask is lawful by the cells it is made of.
-- Assumes nothing.
use Rattle.std.specs.Prelude.{◌≡◌, refl, true, List, [], ◌∷◌, ℕ, zero, suc, ◌^◌, ◌≤◌, ◌<◌, Ok}
use Rattle.std.proofs.Common.{sym, ap, ◌∙◌, leb-true, lit<}
use Rattle.std.proofs.lemmas.Bool.{false≢true}
use mathlib.Core.List.Memᴰ.{head as here}
use mathlib.Core.List.Memᴰ.{tail as there}
use Rattle.laws.specs.Lists.{nth}
use Rattle.laws.specs.Field.{field}
use Rattle.laws.specs.FieldLaws.{field_lt}
use Rattle.kinds.specs.declared.Reference.{Reference}
use Rattle.kinds.specs.declared.Price.{Price}
use Rattle.kinds.specs.declared.Side.{Side}
use Rattle.kinds.specs.Admission.{maximum}
use Rattle.text.specs.Text.{text}
use Rattle.layout.specs.Kind.{Kind, Cell, cell}
use Rattle.layout.specs.Kind.Kind.{number, shares as quantity, price4, texts}
use Rattle.layout.specs.Layout.{cells_of}
use Rattle.messages.specs.declared.Head.{Head}
use Rattle.messages.specs.declared.Message.{Message}
use Rattle.messages.specs.declared.Message.TheVariants as m
use Rattle.messages.specs.Numbers.{letter_of, values_of, numbers}
use Rattle.wellformed.specs.WellFormed.{good, good_shares, good_price, values}
use Rattle.reader.specs.Read.{type_of, answer}
use Rattle.numbers.specs.Shown.{answer_number as number_of}
use Rattle.read_theorems.specs.Statements.{AllGood}
use Rattle.read_theorems.proofs.Exactly.{read_exactly}
use Rattle.read_theorems.proofs.Fields.{accepted_fields}
use Rattle.decide.specs.Decide.{unattributed}
use Rattle.steps.specs.Asked.{starting, asked}
use Rattle.moves.specs.Lawful.{Bytes, Starts, Symbolic, Lawful}

-- a field of bytes fits its width
pub field_fits : (s : List ℕ) (at width : ℕ) → Bytes s → field s at width < 256 ^ width
field_fits = field_lt

-- cell i of a row, or an empty one past the end
abbrev pub cell_at : List Cell → ℕ → Cell
cell_at [] i = cell number 0 0
cell_at (c ∷ cs) zero = c
cell_at (c ∷ cs) (suc i) = cell_at cs i

-- v is well formed in a field of the kind k and of w bytes, and fits them
pub record Passed (k : Kind) (w v : ℕ) : Type 0 where
  pub well : good k w v ≡ true
  pub fits : v < 256 ^ w

-- v has passed as what the cell c holds
abbrev pub PassedAt : Cell → ℕ → Type 0
PassedAt c v = Passed c.kind c.width v

values_passed : (s : List ℕ) (cs : List Cell) (i : ℕ) → Bytes s → AllGood s cs → PassedAt (cell_at cs i) (nth (values s cs) i)
values_passed s [] i b g = record { well = refl; fits = lit< tt }
values_passed s (c ∷ cs) zero b g = record { well = g c (here refl); fits = field_fits s c.offset c.width b }
values_passed s (c ∷ cs) (suc i) b g = values_passed s cs i b (λ d m. g d (there m))

-- each number of a message that was read has passed at its cell
pub read_at : (s : List ℕ) (x : Message) → Bytes s → answer s ≡ Ok x → (i : ℕ) → PassedAt (cell_at (cells_of (letter_of x)) i) (nth (values_of x) i)
read_at s x b e i =
    let cs = cells_of (type_of s) in
    let n : number_of (answer s) ≡ 0 = ap number_of e in
    let l : 0 ∷ letter_of x ∷ values_of x ≡ 0 ∷ type_of s ∷ values s cs = sym (ap numbers e) ∙ (accepted_fields s n).listed in
    let t : letter_of x ≡ type_of s = ap (λ (v : List ℕ). nth v 1) l in
    let v : nth (values_of x) i ≡ nth (values s cs) i = ap (λ (v : List ℕ). nth v (suc (suc i))) l in
    rw (t, v) (values_passed s cs i b ((read_exactly s).done.0 n).1)

-- ---- what is known of a number that has passed, by its kind

-- a symbol: 0 is no text
symbolic : (v : ℕ) → Passed texts 8 v → Symbolic v
unfolding text
symbolic v h = record { worded = h.well; some = λ e. false≢true (sym (ap (text 8) e) ∙ h.well); fits = h.fits }

some_shares : (v : ℕ) → Passed quantity 4 v → (1 ≤ v) × (v < 4294967296)
unfolding good_shares
some_shares v h = (leb-true 1 v h.well, h.fits)

price_admitted : (v : ℕ) → Passed price4 4 v → v ≤ maximum
unfolding good_price
price_admitted v h = leb-true v maximum h.well

-- NSDQ would pass as an attribution
unattributed-passes : Passed texts 4 unattributed
unfolding text
unattributed-passes = record { well = refl; fits = lit< tt }

starts : (h : Head) (reference : Reference) (side : Side) (shares : ℕ) (price : Price) (attribution : ℕ)
    → Passed number 2 h.stock_locate.0 → Passed number 8 reference.0 → Passed quantity 4 shares → Passed price4 4 price.0
    → Passed texts 4 attribution → Starts (starting h reference side shares price attribution)
starts h reference side shares price attribution l n q p a =
    record {
      price = price_admitted price.0 p;
      some = (some_shares shares q).0;
      added = (some_shares shares q).1;
      executed = refl;
      cancelled = refl;
      closed = refl;
      locate = l.fits;
      reference = n.fits;
      attribution = a.fits;
      worded = a.well;
    }

-- what is asked by a message that was read, kind by kind
pub lawful : (s : List ℕ) (x : Message) → Bytes s → answer s ≡ Ok x → Lawful (asked x)
lawful s (m.StockDirectory r) b e = let h = read_at s (m.StockDirectory r) b e in ((h 0).fits, symbolic r.stock (h 3))
lawful s (m.AddOrder r) b e =
    let h = read_at s (m.AddOrder r) b e in (
      starts r.head r.order_reference_number r.buy_sell_indicator r.shares r.price unattributed (h 0) (h 3) (h 5) (h 7)
          unattributed-passes,
      symbolic r.stock (h 6),
    )
lawful s (m.AddOrderMpid r) b e =
    let h = read_at s (m.AddOrderMpid r) b e in (
      starts r.head r.order_reference_number r.buy_sell_indicator r.shares r.price r.attribution (h 0) (h 3) (h 5) (h 7)
          (h 8),
      symbolic r.stock (h 6),
    )
lawful s (m.OrderExecuted r) b e = some_shares r.executed_shares (read_at s (m.OrderExecuted r) b e 4)
lawful s (m.OrderExecutedWithPrice r) b e = some_shares r.executed_shares (read_at s (m.OrderExecutedWithPrice r) b e 4)
lawful s (m.OrderCancel r) b e = some_shares r.cancelled_shares (read_at s (m.OrderCancel r) b e 4)
lawful s (m.OrderDelete r) b e = tt
lawful s (m.OrderReplace r) b e =
    let h = read_at s (m.OrderReplace r) b e in
    let q = some_shares r.shares (h 5) in
    (q.0, q.1, price_admitted r.price.0 (h 6), (h 4).fits)
lawful s (m.SystemEvent r) b e = tt
lawful s (m.StockTradingAction r) b e = tt
lawful s (m.RegShoRestriction r) b e = tt
lawful s (m.MarketParticipantPosition r) b e = tt
lawful s (m.MwcbDeclineLevel r) b e = tt
lawful s (m.MwcbStatus r) b e = tt
lawful s (m.QuotingPeriodUpdate r) b e = tt
lawful s (m.LuldAuctionCollar r) b e = tt
lawful s (m.OperationalHalt r) b e = tt
lawful s (m.Trade r) b e = tt
lawful s (m.CrossTrade r) b e = tt
lawful s (m.BrokenTrade r) b e = tt
lawful s (m.NetOrderImbalance r) b e = tt
lawful s (m.RetailInterest r) b e = tt
lawful s (m.DirectListing r) b e = tt
