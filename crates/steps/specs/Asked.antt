-- What a message asks of the tables (01, 'What each message does'): 23 kinds of message ask for six kinds of thing. Assumes nothing.
use Rattle.std.specs.Prelude.{ℕ}
use Rattle.kinds.specs.declared.Reference.{Reference}
use Rattle.kinds.specs.declared.Price.{Price}
use Rattle.kinds.specs.declared.Side.{Side}
use Rattle.messages.specs.declared.Head.{Head}
use Rattle.messages.specs.declared.Message.{Message}
use Rattle.messages.specs.declared.Message.TheVariants as m
use Rattle.orders.specs.declared.Order.{Order}
use Rattle.decide.specs.Decide.{unattributed}
use Rattle.take.specs.declared.Taking.{Taking}
use Rattle.take.specs.declared.Taking.TheVariants.{Executed, Cancelled}

pub data Asked : Type 0 where
  -- a symbol at a locate
  register : (locate symbol : ℕ) → Asked
  -- an order that starts its life, of the stock with a symbol
  start : (o : Order) (symbol : ℕ) → Asked
  -- n shares of an order
  take : (how : Taking) (reference locate n : ℕ) → Asked
  -- all that remains of an order
  close : (reference locate : ℕ) → Asked
  -- an order in the place of another
  replace : (original new locate shares price : ℕ) → Asked
  -- nothing
  nothing : Asked

-- an order of which nothing is gone yet
abbrev pub starting : Head → Reference → Side → ℕ → Price → ℕ → Order
starting h reference side shares price attribution = record {
  reference = reference;
  price = price;
  added = shares;
  executed = 0;
  cancelled = 0;
  closed = 0;
  locate = h.stock_locate;
  side = side;
  attribution = attribution;
}

-- R; A is kept with attribution NSDQ, F with its own; E, C and X; D; U; all others ask for nothing
abbrev pub asked : Message → Asked
asked (m.StockDirectory r) = register r.head.stock_locate.0 r.stock
asked (m.AddOrder r) =
    start (starting r.head r.order_reference_number r.buy_sell_indicator r.shares r.price unattributed) r.stock
asked (m.AddOrderMpid r) =
    start (starting r.head r.order_reference_number r.buy_sell_indicator r.shares r.price r.attribution) r.stock
asked (m.OrderExecuted r) = take Executed r.order_reference_number.0 r.head.stock_locate.0 r.executed_shares
asked (m.OrderExecutedWithPrice r) = take Executed r.order_reference_number.0 r.head.stock_locate.0 r.executed_shares
asked (m.OrderCancel r) = take Cancelled r.order_reference_number.0 r.head.stock_locate.0 r.cancelled_shares
asked (m.OrderDelete r) = close r.order_reference_number.0 r.head.stock_locate.0
asked (m.OrderReplace r) =
    replace r.original_order_reference_number.0 r.new_order_reference_number.0 r.head.stock_locate.0 r.shares r.price.0
asked (m.SystemEvent r) = nothing
asked (m.StockTradingAction r) = nothing
asked (m.RegShoRestriction r) = nothing
asked (m.MarketParticipantPosition r) = nothing
asked (m.MwcbDeclineLevel r) = nothing
asked (m.MwcbStatus r) = nothing
asked (m.QuotingPeriodUpdate r) = nothing
asked (m.LuldAuctionCollar r) = nothing
asked (m.OperationalHalt r) = nothing
asked (m.Trade r) = nothing
asked (m.CrossTrade r) = nothing
asked (m.BrokenTrade r) = nothing
asked (m.NetOrderImbalance r) = nothing
asked (m.RetailInterest r) = nothing
asked (m.DirectListing r) = nothing
