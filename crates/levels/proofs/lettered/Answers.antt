-- The usual letters pass. Assumes nothing.
use Rattle.levels.specs.Letters.{letters_pass, usual_letters}
use Rattle.levels.proofs.lettered.Goals as goal

pub returns-then-n3 : goal.returns-then-n3
returns-then-n3 c = letters_pass _ (usual_letters _ c.if-n3.true)
