-- What each reader of a field ensures: what it holds, its faults, and the bound that adding the faults up asks.
-- Assumes nothing.
use Rattle.std.specs.Prelude.{ℕ, zero, suc, ◌+◌, ◌*◌, ◌≤◌, ◌<◌, ◌≡◌, List, get_or}
use Rattle.laws.specs.Bools.{fault}
use Rattle.laws.specs.Field.{field}
use Rattle.kinds.specs.Sides.{side_byte, good_side}
use Rattle.text.specs.Text.{text}
use Rattle.wellformed.specs.WellFormed.{good_time, good_shares, good_price, good_printable}
use Rattle.wellformed.specs.FaultSum.{side_held, price_held}
use Rattle.kinds.specs.declared.Price.{Price}
use Rattle.kinds.specs.declared.Side.{Side}
use Rattle.messages.specs.declared.Head.{Head}
use Rattle.checked.specs.declared.Checked.{Checked}
use Rattle.checked.specs.declared.Lot.{Lot}

pub record IsHeaded (s : List ℕ) (r : Checked Head) : Type 0 where
  pub locate : r.value.stock_locate.0 ≡ field s 1 2
  pub tracking : r.value.tracking_number ≡ field s 3 2
  pub time : r.value.timestamp ≡ field s 5 6
  pub faults : r.faults ≡ 512 * fault (good_time (field s 5 6))
  pub small : r.faults ≤ 512

pub record IsShares (s : List ℕ) (at : ℕ) (r : Checked ℕ) : Type 0 where
  pub shares : r.value ≡ field s at 4
  pub faults : r.faults ≡ fault (good_shares (field s at 4))
  pub small : r.faults ≤ 1

pub record IsPriced (s : List ℕ) (at : ℕ) (r : Checked Price) : Type 0 where
  pub price : r.value.0 ≡ price_held (field s at 4)
  pub faults : r.faults ≡ 2 * fault (good_price (field s at 4))
  pub small : r.faults ≤ 2

pub record IsSided (s : List ℕ) (at : ℕ) (r : Checked Side) : Type 0 where
  pub side : side_byte r.value ≡ side_held (field s at 1)
  pub faults : r.faults ≡ 16 * fault (good_side (field s at 1))
  pub small : r.faults ≤ 16

pub record IsPrintable (s : List ℕ) (at : ℕ) (r : Checked ℕ) : Type 0 where
  pub printable : r.value ≡ field s at 1
  pub faults : r.faults ≡ 16 * fault (good_printable (field s at 1))
  pub small : r.faults ≤ 16

pub record IsText8 (s : List ℕ) (at : ℕ) (r : Checked ℕ) : Type 0 where
  pub held : r.value ≡ field s at 8
  pub faults : r.faults ≡ 16 * fault (text 8 (field s at 8))
  pub small : r.faults ≤ 16

pub record IsText4 (s : List ℕ) (at : ℕ) (r : Checked ℕ) : Type 0 where
  pub held : r.value ≡ field s at 4
  pub faults : r.faults ≡ 16 * fault (text 4 (field s at 4))
  pub small : r.faults ≤ 16

pub record IsLot (s : List ℕ) (at : ℕ) (r : Checked Lot) : Type 0 where
  pub side : side_byte r.value.side ≡ side_held (field s at 1)
  pub shares : r.value.shares ≡ field s (at + 1) 4
  pub faults : r.faults ≡ 16 * fault (good_side (field s at 1)) + fault (good_shares (field s (at + 1) 4))
  pub small : r.faults ≤ 17

-- the faults of n prices side by side
abbrev pub price_faults : List ℕ → ℕ → ℕ → ℕ
price_faults s at zero = 0
price_faults s at (suc n) = price_faults s at n + 2 * fault (good_price (field s (at + 4 * n) 4))

-- n prices side by side
pub record ArePrices (n : ℕ) (s : List ℕ) (at : ℕ) (r : Checked (List Price)) : Type 0 where
  pub held : (i : ℕ) → i < n → (get_or r.value i (record { 0 = 0 })).0 ≡ price_held (field s (at + 4 * i) 4)
  pub faults : r.faults ≡ price_faults s at n
  pub small : r.faults ≤ 2 * n
