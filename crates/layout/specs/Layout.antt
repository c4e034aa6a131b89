-- THE TABLE: each message's type byte, and its fields after the type byte, by the sections of document 000. Every layout
-- of the product is this one. 000 lost the names in rows of C (1.4.2), which 003 gives; its offsets and widths are whole.
-- `length_of` follows from the table; Chained.antt proves it to be the length that 01 prints. Assumes nothing.
use Rattle.std.specs.Prelude.{ℕ, cond, List, [], ◌∷◌, eqb}
use Rattle.layout.specs.Kind.{Cell, cell, end}
use Rattle.layout.specs.Kind.Kind.{number, time, shares, price4, price8, texts, side, printable, code, alpha, reserved}

-- a message's type byte, and its fields after it
pub record Row : Type 0 where
  pub letter : ℕ
  pub cells : List Cell

-- every message begins with Stock Locate, Tracking Number and Timestamp
abbrev pub row : ℕ → List Cell → Row
row t cs = record { letter = t; cells = cell number 1 2 ∷ cell number 3 2 ∷ cell time 5 6 ∷ cs }

abbrev pub rows : List Row
rows =
    -- S, 1.1: Event Code
    row 83 (cell code 11 1 ∷ []) ∷
    -- R, 1.2.1: Stock, Market Category, Financial Status Indicator, Round Lot Size, Round Lots Only, Issue Classification,
    -- Issue Sub-Type, Authenticity, Short Sale Threshold Indicator, IPO Flag, LULD Reference Price Tier, ETP Flag,
    -- ETP Leverage Factor, Inverse Indicator
    row 82 (cell texts 11 8 ∷ cell code 19 1 ∷ cell code 20 1 ∷ cell number 21 4 ∷ cell code 25 1 ∷ cell alpha 26 1
    ∷ cell alpha 27 2 ∷ cell code 29 1 ∷ cell code 30 1 ∷ cell code 31 1 ∷ cell code 32 1 ∷ cell code 33 1
    ∷ cell number 34 4 ∷ cell code 38 1 ∷ []) ∷
    -- H, 1.2.2: Stock, Trading State, Reserved, Reason
    row 72 (cell texts 11 8 ∷ cell code 19 1 ∷ cell reserved 20 1 ∷ cell alpha 21 4 ∷ []) ∷
    -- Y, 1.2.3: Stock, Reg SHO Action
    row 89 (cell texts 11 8 ∷ cell code 19 1 ∷ []) ∷
    -- L, 1.2.4: MPID, Stock, Primary Market Maker, Market Maker Mode, Market Participant State
    row 76 (cell texts 11 4 ∷ cell texts 15 8 ∷ cell code 23 1 ∷ cell code 24 1 ∷ cell code 25 1 ∷ []) ∷
    -- V, 1.2.5.1: Level 1, Level 2, Level 3
    row 86 (cell price8 11 8 ∷ cell price8 19 8 ∷ cell price8 27 8 ∷ []) ∷
    -- W, 1.2.5.2: Breached Level
    row 87 (cell code 11 1 ∷ []) ∷
    -- K, 1.2.6: Stock, IPO Quotation Release Time, IPO Quotation Release Qualifier, IPO Price
    row 75 (cell texts 11 8 ∷ cell number 19 4 ∷ cell code 23 1 ∷ cell price4 24 4 ∷ []) ∷
    -- J, 1.2.7: Stock, Auction Collar Reference Price, Upper and Lower Auction Collar Price, Auction Collar Extension
    row 74 (cell texts 11 8 ∷ cell price4 19 4 ∷ cell price4 23 4 ∷ cell price4 27 4 ∷ cell number 31 4 ∷ []) ∷
    -- h, 1.2.8: Stock, Market Code, Operational Halt Action
    row 104 (cell texts 11 8 ∷ cell code 19 1 ∷ cell code 20 1 ∷ []) ∷
    -- A, 1.3.1: Order Reference Number, Buy/Sell Indicator, Shares, Stock, Price
    row 65 (cell number 11 8 ∷ cell side 19 1 ∷ cell shares 20 4 ∷ cell texts 24 8 ∷ cell price4 32 4 ∷ []) ∷
    -- F, 1.3.2: as A, Attribution
    row 70 (cell number 11 8 ∷ cell side 19 1 ∷ cell shares 20 4 ∷ cell texts 24 8 ∷ cell price4 32 4 ∷ cell texts 36 4 ∷ []) ∷
    -- E, 1.4.1: Order Reference Number, Executed Shares, Match Number
    row 69 (cell number 11 8 ∷ cell shares 19 4 ∷ cell number 23 8 ∷ []) ∷
    -- C, 1.4.2: Order Reference Number, Executed Shares, Match Number, Printable, Execution Price
    row 67 (cell number 11 8 ∷ cell shares 19 4 ∷ cell number 23 8 ∷ cell printable 31 1 ∷ cell price4 32 4 ∷ []) ∷
    -- X, 1.4.3: Order Reference Number, Cancelled Shares
    row 88 (cell number 11 8 ∷ cell shares 19 4 ∷ []) ∷
    -- D, 1.4.4: Order Reference Number
    row 68 (cell number 11 8 ∷ []) ∷
    -- U, 1.4.5: Original Order Reference Number, New Order Reference Number, Shares, Price
    row 85 (cell number 11 8 ∷ cell number 19 8 ∷ cell shares 27 4 ∷ cell price4 31 4 ∷ []) ∷
    -- P, 1.5.1: Order Reference Number, Buy/Sell Indicator, Shares (any), Stock, Price, Match Number
    row 80 (cell number 11 8 ∷ cell side 19 1 ∷ cell number 20 4 ∷ cell texts 24 8 ∷ cell price4 32 4 ∷ cell number 36 8 ∷ []) ∷
    -- Q, 1.5.2: Shares (any), Stock, Cross Price, Match Number, Cross Type
    row 81 (cell number 11 8 ∷ cell texts 19 8 ∷ cell price4 27 4 ∷ cell number 31 8 ∷ cell code 39 1 ∷ []) ∷
    -- B, 1.5.3: Match Number
    row 66 (cell number 11 8 ∷ []) ∷
    -- I, 1.6: Paired Shares, Imbalance Shares, Imbalance Direction, Stock, Far Price, Near Price, Current Reference Price,
    -- Cross Type, Price Variation Indicator
    row 73 (cell number 11 8 ∷ cell number 19 8 ∷ cell code 27 1 ∷ cell texts 28 8 ∷ cell price4 36 4 ∷ cell price4 40 4
    ∷ cell price4 44 4 ∷ cell code 48 1 ∷ cell code 49 1 ∷ []) ∷
    -- N, 1.7: Stock, Interest Flag
    row 78 (cell texts 11 8 ∷ cell code 19 1 ∷ []) ∷
    -- O, 1.8: Stock, Open Eligibility Status, Minimum and Maximum Allowable Price, Near Execution Price,
    -- Near Execution Time, Lower and Upper Price Range Collar
    row 79 (cell texts 11 8 ∷ cell code 19 1 ∷ cell price4 20 4 ∷ cell price4 24 4 ∷ cell price4 28 4 ∷ cell number 32 8
    ∷ cell price4 40 4 ∷ cell price4 44 4 ∷ []) ∷
    []

-- the fields of the row with the letter t; none where t is no type
abbrev pub cells_in : List Row → ℕ → List Cell
cells_in [] t = []
cells_in (r ∷ rs) t = cond (eqb t r.letter) r.cells (cells_in rs t)

-- the fields of a message of type t after its type byte
abbrev pub cells_of : ℕ → List Cell
cells_of t = cells_in rows t

-- the end of the last field
abbrev pub last_end : ℕ → List Cell → ℕ
last_end n [] = n
last_end n (c ∷ cs) = last_end (end c) cs

-- how many bytes a message of type t has; 0 where t is no type
unfoldable pub length_of : ℕ → ℕ
length_of t = last_end 0 (cells_of t)
