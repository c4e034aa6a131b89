-- Each arm has its place in the list of Stock fields, and what is no arm is not in it. Assumes nothing.
use mathlib.Core.Path.{refl}
use Rattle.symbol.proofs.Laws.{starts, starts_nowhere}
use Rattle.symbol.proofs.stock_at.Goals as goal

pub returns-in-82 : goal.returns-in-82
returns-in-82 c = starts refl c.in-82.is

pub returns-in-72 : goal.returns-in-72
returns-in-72 c = starts refl c.in-72.is

pub returns-in-89 : goal.returns-in-89
returns-in-89 c = starts refl c.in-89.is

pub returns-in-76 : goal.returns-in-76
returns-in-76 c = starts refl c.in-76.is

pub returns-in-75 : goal.returns-in-75
returns-in-75 c = starts refl c.in-75.is

pub returns-in-74 : goal.returns-in-74
returns-in-74 c = starts refl c.in-74.is

pub returns-in-104 : goal.returns-in-104
returns-in-104 c = starts refl c.in-104.is

pub returns-in-65 : goal.returns-in-65
returns-in-65 c = starts refl c.in-65.is

pub returns-in-70 : goal.returns-in-70
returns-in-70 c = starts refl c.in-70.is

pub returns-in-80 : goal.returns-in-80
returns-in-80 c = starts refl c.in-80.is

pub returns-in-81 : goal.returns-in-81
returns-in-81 c = starts refl c.in-81.is

pub returns-in-73 : goal.returns-in-73
returns-in-73 c = starts refl c.in-73.is

pub returns-in-78 : goal.returns-in-78
returns-in-78 c = starts refl c.in-78.is

pub returns-in-79 : goal.returns-in-79
returns-in-79 c = starts refl c.in-79.is

pub returns-in_default : goal.returns-in_default
returns-in_default c = starts_nowhere _ c.in_default.in_default-own.rest
