-- What remains is what the order says. Assumes nothing.
use Rattle.accounts.proofs.account_of.Goals as goal

pub returns : goal.returns
returns c = cc
