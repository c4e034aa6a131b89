-- 01's starred cases ('Cases by the book'), one row a case or a part of one: what is lent, and what 01 says of the answer and of
-- the tables. Hold.antt proves every row. Assumes nothing.
use Rattle.std.specs.Prelude.{ℕ, zero, suc, ◌/◌, ◌%◌, cond, List, [], ◌∷◌, ◌++◌, eqb, replicate}

pub data Case : Type 0 where
  -- bytes that are read, and the number of the answer
  read : (bytes : List ℕ) (number : ℕ) → Case
  -- messages applied in turn to fresh tables, of 2 and of 257 numbers, and one more: of its answer the number and the order's figures,
  -- and both whole tables that are left
  run : (messages : List (List ℕ)) (last : List ℕ) (number : ℕ) (figures directory book : List ℕ) → Case
  -- messages applied in turn to such tables, and then a question about an order: the number of the answer and its eight values
  account : (messages : List (List ℕ)) (reference number : ℕ) (values : List ℕ) → Case
  -- the same, and then a question about a level: the number of the answer, total and count
  level : (messages : List (List ℕ)) (locate side price number : ℕ) (values : List ℕ) → Case
  -- tables of so many zeros: the number of making them fresh, and of applying no bytes to them
  shape : (directory book : ℕ) (fresh apply : ℕ) → Case

-- the w big-endian bytes of v
abbrev pub be : ℕ → ℕ → List ℕ
be zero v = []
be (suc w) v = be w (v / 256) ++ (v % 256 ∷ [])

-- how the messages of the type t begin: locate 1, tracking number 0, and the time
abbrev pub header : ℕ → ℕ → List ℕ
header t time = t ∷ be 2 1 ++ be 2 0 ++ be 6 time

abbrev pub ZVZZT : ℕ
ZVZZT = 0x5A565A5A54202020

-- R: ZVZZT at locate 1, every code a space
abbrev pub register_of : List ℕ
register_of = header 82 0 ++ be 8 ZVZZT ++ replicate 20 32

-- A: an order of ZVZZT
abbrev pub add : ℕ → ℕ → ℕ → ℕ → List ℕ
add reference side shares price = header 65 0 ++ be 8 reference ++ side ∷ be 4 shares ++ be 8 ZVZZT ++ be 4 price

-- E
abbrev pub execute : ℕ → ℕ → List ℕ
execute reference shares = header 69 0 ++ be 8 reference ++ be 4 shares ++ be 8 1

-- X
abbrev pub cancel : ℕ → ℕ → List ℕ
cancel reference shares = header 88 0 ++ be 8 reference ++ be 4 shares

-- D, at a time
abbrev pub delete_at : ℕ → ℕ → List ℕ
delete_at time reference = header 68 time ++ be 8 reference

-- U
abbrev pub replace_of : ℕ → ℕ → ℕ → ℕ → List ℕ
replace_of original new shares price = header 85 0 ++ be 8 original ++ be 8 new ++ be 4 shares ++ be 4 price

-- the order 5 of 01's whole case: a buy of 300 at 100000
abbrev pub five : List ℕ
five = add 5 66 300 100000

-- R, then order 5 and E 100; then X 50
abbrev pub third_of : List (List ℕ)
third_of = register_of ∷ five ∷ execute 5 100 ∷ []

abbrev pub fourth_of : List (List ℕ)
fourth_of = third_of ++ (cancel 5 50 ∷ [])

-- a sell of the most shares
abbrev pub sell : ℕ → List ℕ
sell reference = add reference 83 4294967295 100000

-- buys of 300 at 100000 with the references n down to 1
abbrev pub fill : ℕ → List (List ℕ)
fill zero = []
fill (suc n) = add (suc n) 66 300 100000 ∷ fill n

-- a directory with ZVZZT at locate 1
abbrev pub listed : List ℕ
listed = 0 ∷ ZVZZT ∷ []

-- books of 64 slots: none live, the first, the first two
abbrev pub empty : List ℕ
empty = replicate 257 0

abbrev pub holding : ℕ → ℕ → ℕ → ℕ → List ℕ
holding n0 n1 n2 n3 = 1 ∷ n0 ∷ n1 ∷ n2 ∷ n3 ∷ replicate 252 0

abbrev pub holding_two : ℕ → ℕ → ℕ → ℕ → ℕ → ℕ → ℕ → ℕ → List ℕ
holding_two n0 n1 n2 n3 p0 p1 p2 p3 = 3 ∷ n0 ∷ n1 ∷ n2 ∷ n3 ∷ p0 ∷ p1 ∷ p2 ∷ p3 ∷ replicate 248 0

-- all 64 live with the orders of `fill`, but new in the place of old
abbrev pub slot_rows : ℕ → ℕ → ℕ → List ℕ
slot_rows old new zero = []
slot_rows old new (suc n) = cond (eqb (suc n) old) new (suc n) ∷ 0x000186A00000012C ∷ 0 ∷ 0x0001424E53445100 ∷ slot_rows old new n

abbrev pub filled_but : ℕ → ℕ → List ℕ
filled_but old new = 0xFFFFFFFFFFFFFFFF ∷ slot_rows old new 64

abbrev pub filled : List ℕ
filled = filled_but 0 0

-- of a buy at 100000 at locate 1: shares taken or put, and what then remains
abbrev pub bought : ℕ → ℕ → List ℕ
bought shares remains = 1 ∷ 66 ∷ 100000 ∷ shares ∷ remains ∷ replicate 5 0

-- the book after case 4
abbrev pub fourth_book : List ℕ
fourth_book = holding 5 0x000186A00000012C 0x0000006400000032 0x0001424E53445100

abbrev pub table : List Case
table =
    -- 1: no bytes: 1; one byte A: 1; one byte Z: 2
    read [] 1
    ∷ read (65 ∷ []) 1
    ∷ read (90 ∷ []) 2
    -- 2: time 86,399,999,999,999 passes, 86,400,000,000,000: 3
    ∷ read (delete_at 86399999999999 5) 0
    ∷ read (delete_at 86400000000000 5) 3
    -- 3: price 2,000,000,000 passes, 2,000,000,001: 5
    ∷ read (add 5 66 300 2000000000) 0
    ∷ read (add 5 66 300 2000000001) 5
    -- 4: A of 300, E 100, X 50: 150 remain, and the numbers of the slot
    ∷ run (register_of ∷ []) five 0 (bought 300 300) listed (holding 5 0x000186A00000012C 0 0x0001424E53445100)
    ∷ run third_of (cancel 5 50) 0 (bought 50 150) listed fourth_book
    ∷ account fourth_of 5 0 (300 ∷ 100 ∷ 50 ∷ 150 ∷ 1 ∷ 66 ∷ 100000 ∷ 0x4E534451 ∷ [])
    ∷ level fourth_of 1 66 100000 0 (150 ∷ 1 ∷ [])
    -- 5: then E 151: 11; E 150 instead: gone
    ∷ run fourth_of (execute 5 151) 11 (replicate 10 0) listed fourth_book
    ∷ run fourth_of (execute 5 150) 0 (bought 150 0) listed empty
    ∷ account (fourth_of ++ (execute 5 150 ∷ [])) 5 10 (replicate 8 0)
    ∷ level (fourth_of ++ (execute 5 150 ∷ [])) 1 66 100000 0 (0 ∷ 0 ∷ [])
    -- 6: U with new equal to original: 9
    ∷ run fourth_of (replace_of 5 5 10 100000) 9 (replicate 10 0) listed fourth_book
    -- 7: D, then A with the same reference: a new life
    ∷ run fourth_of (delete_at 0 5) 0 (bought 150 0) listed empty
    ∷ run (fourth_of ++ (delete_at 0 5 ∷ [])) five 0 (bought 300 300) listed (holding 5 0x000186A00000012C 0 0x0001424E53445100)
    -- 8: two sells of 4,294,967,295 at one price: total 8,589,934,590, count 2
    ∷ run (register_of ∷ sell 5 ∷ []) (sell 6) 0
    (1 ∷ 83 ∷ 100000 ∷ 4294967295 ∷ 4294967295 ∷ replicate 5 0) listed
    (holding_two 5 0x000186A0FFFFFFFF 0 0x0001534E53445100 6 0x000186A0FFFFFFFF 0 0x0001534E53445100)
    ∷ level (register_of ∷ sell 5 ∷ sell 6 ∷ []) 1 83 100000 0 (8589934590 ∷ 2 ∷ [])
    -- 9: 64 live of 64: A gets 12, U is accepted; D, then A: accepted in the freed slot
    ∷ run (register_of ∷ fill 64) (add 65 66 300 100000) 12 (replicate 10 0) listed filled
    ∷ run (register_of ∷ fill 64) (replace_of 30 65 300 100000) 0
    (1 ∷ 66 ∷ 100000 ∷ 300 ∷ 0 ∷ 1 ∷ 66 ∷ 100000 ∷ 300 ∷ 300 ∷ []) listed (filled_but 30 65)
    ∷ run (register_of ∷ fill 64 ++ (delete_at 0 30 ∷ [])) (add 65 66 300 100000) 0 (bought 300 300) listed (filled_but 30 65)
    -- 10: book lengths 257 and 16,448 pass; 0, 256, 258 and 16,705: 14
    ∷ shape 2 257 0 1
    ∷ shape 2 16448 0 1
    ∷ shape 2 0 14 14
    ∷ shape 2 256 14 14
    ∷ shape 2 258 14 14
    ∷ shape 2 16705 14 14
    ∷ []
