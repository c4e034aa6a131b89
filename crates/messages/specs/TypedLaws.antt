-- A message is made by its own numbers, so no two messages have the same numbers. Assumes nothing.
use Rattle.std.specs.Prelude.{◌≡◌, refl}
use Rattle.std.proofs.Common.{sym, ap₂, ◌∙◌}
use Rattle.kinds.specs.SideLaws.{side_back}
use Rattle.messages.specs.declared.Message.{Message}
use Rattle.messages.specs.declared.Message.TheVariants as m
use Rattle.messages.specs.Numbers.{letter_of, values_of}
use Rattle.messages.specs.Typed.{message}

-- a message is the one that its type byte and its fields make
pub message_back : (x : Message) → message (letter_of x) (values_of x) ≡ x
message_back (m.SystemEvent r) = refl
message_back (m.StockDirectory r) = refl
message_back (m.StockTradingAction r) = refl
message_back (m.RegShoRestriction r) = refl
message_back (m.MarketParticipantPosition r) = refl
message_back (m.MwcbDeclineLevel r) = refl
message_back (m.MwcbStatus r) = refl
message_back (m.QuotingPeriodUpdate r) = refl
message_back (m.LuldAuctionCollar r) = refl
message_back (m.OperationalHalt r) = refl
message_back (m.AddOrder r) = rw (side_back r.buy_sell_indicator)
message_back (m.AddOrderMpid r) = rw (side_back r.buy_sell_indicator)
message_back (m.OrderExecuted r) = refl
message_back (m.OrderExecutedWithPrice r) = refl
message_back (m.OrderCancel r) = refl
message_back (m.OrderDelete r) = refl
message_back (m.OrderReplace r) = refl
message_back (m.Trade r) = rw (side_back r.buy_sell_indicator)
message_back (m.CrossTrade r) = refl
message_back (m.BrokenTrade r) = refl
message_back (m.NetOrderImbalance r) = refl
message_back (m.RetailInterest r) = refl
message_back (m.DirectListing r) = refl

-- two messages with the same type byte and the same fields are one
pub message_unique : (x y : Message) → letter_of x ≡ letter_of y → values_of x ≡ values_of y → x ≡ y
message_unique x y e f = sym (message_back x) ∙ ap₂ message e f ∙ message_back y
