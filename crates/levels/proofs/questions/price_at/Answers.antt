-- The two sides count their ticks from either end of the prices. Assumes nothing.
use Rattle.std.proofs.Common.{refl}
use Rattle.levels.proofs.questions.price_at.Goals as goal

pub returns-in-Buy : goal.returns-in-Buy
returns-in-Buy c = rw c.in-Buy.is refl
