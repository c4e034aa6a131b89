-- The answer of an arm is its row's; what is no arm has no length. Assumes nothing.
use native.Mathlib.Omega.{arith}
use Rattle.reader.proofs.Arms.{right, no_type}
use Rattle.reader.proofs.judged.Goals as goal

pub returns-in-82 : goal.returns-in-82
returns-in-82 c = right c.in-82.is c.stock_directory.ensures c.judge-in-82.ensures

pub returns-in-73 : goal.returns-in-73
returns-in-73 c = right c.in-73.is c.net_order_imbalance.ensures c.judge-in-73.ensures

pub returns-in-79 : goal.returns-in-79
returns-in-79 c = right c.in-79.is c.direct_listing.ensures c.judge-in-79.ensures

pub returns-in_default : goal.returns-in_default
returns-in_default c = absurd (omega (arith, no_type c.in_default.in_default-own.rest, c.requires.1))
