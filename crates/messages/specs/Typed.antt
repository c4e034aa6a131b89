-- The message that a type byte and the numbers of its fields make: `message t vs` gives each number of vs, in the order of the
-- table of fields, the name that document 000 has for it. Assumes nothing.
use Rattle.std.specs.Prelude.{ℕ, cond, List, eqb}
use Rattle.laws.specs.Lists.{nth}
use Rattle.kinds.specs.Sides.{side_of}
use Rattle.messages.specs.declared.Head.{Head}
use Rattle.messages.specs.declared.Message.{Message}
use Rattle.messages.specs.declared.Message.TheVariants as m

abbrev pub head_of : List ℕ → Head
head_of v = record { stock_locate = record { 0 = nth v 0 }; tracking_number = nth v 1; timestamp = nth v 2 }

abbrev stock_directory : List ℕ → Message
stock_directory v = m.StockDirectory (record {
  head = head_of v;
  stock = nth v 3;
  market_category = nth v 4;
  financial_status_indicator = nth v 5;
  round_lot_size = nth v 6;
  round_lots_only = nth v 7;
  issue_classification = nth v 8;
  issue_sub_type = nth v 9;
  authenticity = nth v 10;
  short_sale_threshold_indicator = nth v 11;
  ipo_flag = nth v 12;
  luld_reference_price_tier = nth v 13;
  etp_flag = nth v 14;
  etp_leverage_factor = nth v 15;
  inverse_indicator = nth v 16;
})

abbrev stock_trading_action : List ℕ → Message
stock_trading_action v = m.StockTradingAction (record {
  head = head_of v;
  stock = nth v 3;
  trading_state = nth v 4;
  reserved = nth v 5;
  reason = nth v 6;
})

abbrev reg_sho_restriction : List ℕ → Message
reg_sho_restriction v = m.RegShoRestriction (record {
  head = head_of v;
  stock = nth v 3;
  reg_sho_action = nth v 4;
})

abbrev market_participant_position : List ℕ → Message
market_participant_position v = m.MarketParticipantPosition (record {
  head = head_of v;
  mpid = nth v 3;
  stock = nth v 4;
  primary_market_maker = nth v 5;
  market_maker_mode = nth v 6;
  market_participant_state = nth v 7;
})

abbrev mwcb_decline_level : List ℕ → Message
mwcb_decline_level v = m.MwcbDeclineLevel (record {
  head = head_of v;
  level_1 = nth v 3;
  level_2 = nth v 4;
  level_3 = nth v 5;
})

abbrev mwcb_status : List ℕ → Message
mwcb_status v = m.MwcbStatus (record {
  head = head_of v;
  breached_level = nth v 3;
})

abbrev quoting_period_update : List ℕ → Message
quoting_period_update v = m.QuotingPeriodUpdate (record {
  head = head_of v;
  stock = nth v 3;
  ipo_quotation_release_time = nth v 4;
  ipo_quotation_release_qualifier = nth v 5;
  ipo_price = record { 0 = nth v 6 };
})

abbrev luld_auction_collar : List ℕ → Message
luld_auction_collar v = m.LuldAuctionCollar (record {
  head = head_of v;
  stock = nth v 3;
  auction_collar_reference_price = record { 0 = nth v 4 };
  upper_auction_collar_price = record { 0 = nth v 5 };
  lower_auction_collar_price = record { 0 = nth v 6 };
  auction_collar_extension = nth v 7;
})

abbrev operational_halt : List ℕ → Message
operational_halt v = m.OperationalHalt (record {
  head = head_of v;
  stock = nth v 3;
  market_code = nth v 4;
  operational_halt_action = nth v 5;
})

abbrev add_order : List ℕ → Message
add_order v = m.AddOrder (record {
  head = head_of v;
  order_reference_number = record { 0 = nth v 3 };
  buy_sell_indicator = side_of (nth v 4);
  shares = nth v 5;
  stock = nth v 6;
  price = record { 0 = nth v 7 };
})

abbrev add_order_mpid : List ℕ → Message
add_order_mpid v = m.AddOrderMpid (record {
  head = head_of v;
  order_reference_number = record { 0 = nth v 3 };
  buy_sell_indicator = side_of (nth v 4);
  shares = nth v 5;
  stock = nth v 6;
  price = record { 0 = nth v 7 };
  attribution = nth v 8;
})

abbrev order_executed : List ℕ → Message
order_executed v = m.OrderExecuted (record {
  head = head_of v;
  order_reference_number = record { 0 = nth v 3 };
  executed_shares = nth v 4;
  match_number = nth v 5;
})

abbrev order_executed_with_price : List ℕ → Message
order_executed_with_price v = m.OrderExecutedWithPrice (record {
  head = head_of v;
  order_reference_number = record { 0 = nth v 3 };
  executed_shares = nth v 4;
  match_number = nth v 5;
  printable = nth v 6;
  execution_price = record { 0 = nth v 7 };
})

abbrev order_cancel : List ℕ → Message
order_cancel v = m.OrderCancel (record {
  head = head_of v;
  order_reference_number = record { 0 = nth v 3 };
  cancelled_shares = nth v 4;
})

abbrev order_delete : List ℕ → Message
order_delete v = m.OrderDelete (record {
  head = head_of v;
  order_reference_number = record { 0 = nth v 3 };
})

abbrev order_replace : List ℕ → Message
order_replace v = m.OrderReplace (record {
  head = head_of v;
  original_order_reference_number = record { 0 = nth v 3 };
  new_order_reference_number = record { 0 = nth v 4 };
  shares = nth v 5;
  price = record { 0 = nth v 6 };
})

abbrev trade : List ℕ → Message
trade v = m.Trade (record {
  head = head_of v;
  order_reference_number = record { 0 = nth v 3 };
  buy_sell_indicator = side_of (nth v 4);
  shares = nth v 5;
  stock = nth v 6;
  price = record { 0 = nth v 7 };
  match_number = nth v 8;
})

abbrev cross_trade : List ℕ → Message
cross_trade v = m.CrossTrade (record {
  head = head_of v;
  shares = nth v 3;
  stock = nth v 4;
  cross_price = record { 0 = nth v 5 };
  match_number = nth v 6;
  cross_type = nth v 7;
})

abbrev broken_trade : List ℕ → Message
broken_trade v = m.BrokenTrade (record {
  head = head_of v;
  match_number = nth v 3;
})

abbrev net_order_imbalance : List ℕ → Message
net_order_imbalance v = m.NetOrderImbalance (record {
  head = head_of v;
  paired_shares = nth v 3;
  imbalance_shares = nth v 4;
  imbalance_direction = nth v 5;
  stock = nth v 6;
  far_price = record { 0 = nth v 7 };
  near_price = record { 0 = nth v 8 };
  current_reference_price = record { 0 = nth v 9 };
  cross_type = nth v 10;
  price_variation_indicator = nth v 11;
})

abbrev retail_interest : List ℕ → Message
retail_interest v = m.RetailInterest (record {
  head = head_of v;
  stock = nth v 3;
  interest_flag = nth v 4;
})

abbrev direct_listing : List ℕ → Message
direct_listing v = m.DirectListing (record {
  head = head_of v;
  stock = nth v 3;
  open_eligibility_status = nth v 4;
  minimum_allowable_price = record { 0 = nth v 5 };
  maximum_allowable_price = record { 0 = nth v 6 };
  near_execution_price = record { 0 = nth v 7 };
  near_execution_time = nth v 8;
  lower_price_range_collar = record { 0 = nth v 9 };
  upper_price_range_collar = record { 0 = nth v 10 };
})

abbrev system_event : List ℕ → Message
system_event v = m.SystemEvent (record {
  head = head_of v;
  event_code = nth v 3;
})

-- (no other type comes to be asked for, so what is last in the chain of types stands for the rest)
abbrev pub message : ℕ → List ℕ → Message
message t v =
    cond (eqb t 82) (stock_directory v)
    (cond (eqb t 72) (stock_trading_action v)
    (cond (eqb t 89) (reg_sho_restriction v)
    (cond (eqb t 76) (market_participant_position v)
    (cond (eqb t 86) (mwcb_decline_level v)
    (cond (eqb t 87) (mwcb_status v)
    (cond (eqb t 75) (quoting_period_update v)
    (cond (eqb t 74) (luld_auction_collar v)
    (cond (eqb t 104) (operational_halt v)
    (cond (eqb t 65) (add_order v)
    (cond (eqb t 70) (add_order_mpid v)
    (cond (eqb t 69) (order_executed v)
    (cond (eqb t 67) (order_executed_with_price v)
    (cond (eqb t 88) (order_cancel v)
    (cond (eqb t 68) (order_delete v)
    (cond (eqb t 85) (order_replace v)
    (cond (eqb t 80) (trade v)
    (cond (eqb t 81) (cross_trade v)
    (cond (eqb t 66) (broken_trade v)
    (cond (eqb t 73) (net_order_imbalance v)
    (cond (eqb t 78) (retail_interest v)
    (cond (eqb t 79) (direct_listing v)
    (system_event v))))))))))))))))))))))
