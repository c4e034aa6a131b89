-- THE DEFINITION of what a message comes to (01, 'What each message does', 'When the book says no', 7 to 13): the
-- verdict, from the message, the directory's entry and the orders found. No slot is named here. Checks are gates, in 01's order.
-- Assumes nothing.
use Rattle.refusals.specs.declared.Refusal.TheVariants.{Book, Conflict, Duplicate, Full, NoOrder, Over, Stock}
use Rattle.std.specs.Prelude.{ℕ, Bool, true, false, not, cond, eqb, leb, Option, Result, Some, None, Ok, Err}
use Rattle.refusals.specs.declared.Refusal.{Refusal}
use Rattle.directory.specs.Directory.{is_symbol}
use Rattle.orders.specs.declared.Order.{Order}
use Rattle.orders.specs.Order.{remaining}
use Rattle.decide.specs.declared.Step.TheVariants.{Plain, One, Two}
use Rattle.decide.specs.Figured.{figures_of}
use Rattle.decide.specs.declared.Step.{Step}
use Rattle.refusals.specs.declared.Refusal.{Refusal}

pub data Verdict : Type 0 where
  -- refused, for this reason
  refuse : Refusal → Verdict
  -- this order starts a life
  enter : Order → Verdict
  -- this order becomes that one, with so many shares taken
  alter : Order → Order → ℕ → Verdict
  -- this order ends its life
  leave : Order → Verdict
  -- this order ends its life, and that one starts
  renew : Order → Order → Verdict
  -- this locate is given that symbol
  enroll : ℕ → ℕ → Verdict
  -- accepted, and nothing changes
  pass : Verdict

-- go on where the test passes, else refuse
abbrev pub gate : Bool → Refusal → Verdict → Verdict
gate true r v = v
gate false r v = refuse r

-- what is found under a reference: no live slot, or what the slot holds
pub data Seen : Type 0 where
  unseen : Seen
  something : Option Order → Seen

abbrev pub is_registered : Option ℕ → Bool
is_registered None = false
is_registered (Some n) = not (eqb n 0)

-- R: 7, 8; the same symbol again is accepted and changes nothing
abbrev pub registering : Option ℕ → ℕ → ℕ → Verdict
registering None locate symbol = refuse Stock
registering (Some n) locate symbol = cond (eqb n 0) (enroll locate symbol) (gate (eqb n symbol) Conflict pass)

-- A, F: 7, 8, 9, 12
abbrev pub placing : Option ℕ → ℕ → Bool → Bool → Order → Verdict
placing entry symbol live room o =
    gate (is_registered entry) Stock (gate (is_symbol symbol entry) Conflict (gate (not live) Duplicate (gate room Full (enter o))))

-- E, C, X, D and U: 10, 13, 8, and then what comes of the order that is seen
abbrev pub concerning : ℕ → (Order → Verdict) → Seen → Verdict
concerning locate next unseen = refuse NoOrder
concerning locate next (something None) = refuse Book
concerning locate next (something (Some o)) = gate (eqb o.locate.0 locate) Conflict (next o)

-- E, C, X then: 11; what they do to the order is `step`
abbrev pub taking_from : (Order → ℕ → Order) → ℕ → Order → Verdict
taking_from step n o = gate (leb n (remaining o)) Over (alter o (step o n) n)

abbrev pub taking : (Order → ℕ → Order) → ℕ → ℕ → Seen → Verdict
taking step locate n seen = concerning locate (taking_from step n) seen

-- D
abbrev pub closing : ℕ → Seen → Verdict
closing locate seen = concerning locate leave seen

-- NSDQ
abbrev pub unattributed : ℕ
unattributed = 0x4E534451

-- the order that U starts
abbrev pub renewed : Order → ℕ → ℕ → ℕ → Order
renewed o new shares price = record {
  reference = record { 0 = new };
  price = record { 0 = price };
  added = shares;
  executed = 0;
  cancelled = 0;
  closed = 0;
  locate = o.locate;
  side = o.side;
  attribution = unattributed;
}

-- U then: 9
abbrev pub replacing_of : ℕ → ℕ → ℕ → ℕ → Bool → Order → Verdict
replacing_of original new shares price live o =
    gate (not (eqb new original)) Duplicate (gate (not live) Duplicate (renew o (renewed o new shares price)))

abbrev pub replacing : ℕ → ℕ → ℕ → ℕ → ℕ → Bool → Seen → Verdict
replacing locate original new shares price live seen = concerning locate (replacing_of original new shares price live) seen

-- what the answer says of a verdict
abbrev pub step_of : Verdict → Result Step Refusal
step_of (refuse r) = Err r
step_of (enter o) = Ok (One (figures_of o o.added (remaining o)))
step_of (alter o o' n) = Ok (One (figures_of o n (remaining o')))
step_of (leave o) = Ok (One (figures_of o (remaining o) 0))
step_of (renew o o') = Ok (Two (figures_of o (remaining o) 0) (figures_of o' o'.added (remaining o')))
step_of (enroll locate symbol) = Ok Plain
step_of pass = Ok Plain
