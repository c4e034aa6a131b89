-- The sum of a weight over the live orders of a book. Every figure of a book that names no slot is one: shares at a level, orders
-- there, slots that are unsound. Assumes nothing.
use Rattle.std.specs.Prelude.{ℕ, ◌*◌, List, Option}
use Rattle.laws.specs.Definitions.{sum_to}
use Rattle.book.specs.Book.{live}
use Rattle.slots.specs.Stored.{held_at}
use Rattle.orders.specs.declared.Order.{Order}

-- what slot s adds: a free one nothing
unfoldable pub weighed : (Option Order → ℕ) → List ℕ → ℕ → ℕ → ℕ
weighed w b k s = live b s * w (held_at b k s)

unfoldable pub total : (Option Order → ℕ) → List ℕ → ℕ → ℕ
total w b k = sum_to (weighed w b k) (64 * k)
