-- The numbers of an answer: 01's number for it, and where the message is accepted its type byte and its fields, in the order
-- of the table of fields. One definition gives them for every case of the answer. Assumes nothing.
use Rattle.refusals.specs.Refusals.{refusal_number}
use Rattle.std.specs.Prelude.{ℕ, List, [], ◌∷◌, Result, Ok, Err}
use Rattle.kinds.specs.Sides.{side_byte}
use Rattle.messages.specs.declared.Head.{Head}
use Rattle.messages.specs.declared.Message.{Message}
use Rattle.messages.specs.declared.Message.TheVariants as m
use Rattle.refusals.specs.declared.Refusal.{Refusal}

-- a message's type byte
abbrev pub letter_of : Message → ℕ
letter_of (m.SystemEvent r) = 83
letter_of (m.StockDirectory r) = 82
letter_of (m.StockTradingAction r) = 72
letter_of (m.RegShoRestriction r) = 89
letter_of (m.MarketParticipantPosition r) = 76
letter_of (m.MwcbDeclineLevel r) = 86
letter_of (m.MwcbStatus r) = 87
letter_of (m.QuotingPeriodUpdate r) = 75
letter_of (m.LuldAuctionCollar r) = 74
letter_of (m.OperationalHalt r) = 104
letter_of (m.AddOrder r) = 65
letter_of (m.AddOrderMpid r) = 70
letter_of (m.OrderExecuted r) = 69
letter_of (m.OrderExecutedWithPrice r) = 67
letter_of (m.OrderCancel r) = 88
letter_of (m.OrderDelete r) = 68
letter_of (m.OrderReplace r) = 85
letter_of (m.Trade r) = 80
letter_of (m.CrossTrade r) = 81
letter_of (m.BrokenTrade r) = 66
letter_of (m.NetOrderImbalance r) = 73
letter_of (m.RetailInterest r) = 78
letter_of (m.DirectListing r) = 79

-- the three fields that every message begins with, and then the others
abbrev pub after : Head → List ℕ → List ℕ
after h vs = h.stock_locate.0 ∷ h.tracking_number ∷ h.timestamp ∷ vs

-- a message's fields after the type byte
abbrev pub values_of : Message → List ℕ
values_of (m.SystemEvent r) = after r.head (r.event_code ∷ [])
values_of (m.StockDirectory r) = after r.head (r.stock ∷ r.market_category ∷ r.financial_status_indicator ∷ r.round_lot_size ∷ r.round_lots_only ∷ r.issue_classification ∷ r.issue_sub_type ∷ r.authenticity ∷ r.short_sale_threshold_indicator ∷ r.ipo_flag ∷ r.luld_reference_price_tier ∷ r.etp_flag ∷ r.etp_leverage_factor ∷ r.inverse_indicator ∷ [])
values_of (m.StockTradingAction r) = after r.head (r.stock ∷ r.trading_state ∷ r.reserved ∷ r.reason ∷ [])
values_of (m.RegShoRestriction r) = after r.head (r.stock ∷ r.reg_sho_action ∷ [])
values_of (m.MarketParticipantPosition r) = after r.head (r.mpid ∷ r.stock ∷ r.primary_market_maker ∷ r.market_maker_mode ∷ r.market_participant_state ∷ [])
values_of (m.MwcbDeclineLevel r) = after r.head (r.level_1 ∷ r.level_2 ∷ r.level_3 ∷ [])
values_of (m.MwcbStatus r) = after r.head (r.breached_level ∷ [])
values_of (m.QuotingPeriodUpdate r) = after r.head (r.stock ∷ r.ipo_quotation_release_time ∷ r.ipo_quotation_release_qualifier ∷ r.ipo_price.0 ∷ [])
values_of (m.LuldAuctionCollar r) = after r.head (r.stock ∷ r.auction_collar_reference_price.0 ∷ r.upper_auction_collar_price.0 ∷ r.lower_auction_collar_price.0 ∷ r.auction_collar_extension ∷ [])
values_of (m.OperationalHalt r) = after r.head (r.stock ∷ r.market_code ∷ r.operational_halt_action ∷ [])
values_of (m.AddOrder r) = after r.head (r.order_reference_number.0 ∷ side_byte r.buy_sell_indicator ∷ r.shares ∷ r.stock ∷ r.price.0 ∷ [])
values_of (m.AddOrderMpid r) = after r.head (r.order_reference_number.0 ∷ side_byte r.buy_sell_indicator ∷ r.shares ∷ r.stock ∷ r.price.0 ∷ r.attribution ∷ [])
values_of (m.OrderExecuted r) = after r.head (r.order_reference_number.0 ∷ r.executed_shares ∷ r.match_number ∷ [])
values_of (m.OrderExecutedWithPrice r) = after r.head (r.order_reference_number.0 ∷ r.executed_shares ∷ r.match_number ∷ r.printable ∷ r.execution_price.0 ∷ [])
values_of (m.OrderCancel r) = after r.head (r.order_reference_number.0 ∷ r.cancelled_shares ∷ [])
values_of (m.OrderDelete r) = after r.head (r.order_reference_number.0 ∷ [])
values_of (m.OrderReplace r) = after r.head (r.original_order_reference_number.0 ∷ r.new_order_reference_number.0 ∷ r.shares ∷ r.price.0 ∷ [])
values_of (m.Trade r) = after r.head (r.order_reference_number.0 ∷ side_byte r.buy_sell_indicator ∷ r.shares ∷ r.stock ∷ r.price.0 ∷ r.match_number ∷ [])
values_of (m.CrossTrade r) = after r.head (r.shares ∷ r.stock ∷ r.cross_price.0 ∷ r.match_number ∷ r.cross_type ∷ [])
values_of (m.BrokenTrade r) = after r.head (r.match_number ∷ [])
values_of (m.NetOrderImbalance r) = after r.head (r.paired_shares ∷ r.imbalance_shares ∷ r.imbalance_direction ∷ r.stock ∷ r.far_price.0 ∷ r.near_price.0 ∷ r.current_reference_price.0 ∷ r.cross_type ∷ r.price_variation_indicator ∷ [])
values_of (m.RetailInterest r) = after r.head (r.stock ∷ r.interest_flag ∷ [])
values_of (m.DirectListing r) = after r.head (r.stock ∷ r.open_eligibility_status ∷ r.minimum_allowable_price.0 ∷ r.maximum_allowable_price.0 ∷ r.near_execution_price.0 ∷ r.near_execution_time ∷ r.lower_price_range_collar.0 ∷ r.upper_price_range_collar.0 ∷ [])

-- the numbers of an answer: 0 with the message's, or the refusal's alone
abbrev pub numbers : Result Message Refusal → List ℕ
numbers (Ok r) = 0 ∷ letter_of r ∷ values_of r
numbers (Err r) = refusal_number r ∷ []
