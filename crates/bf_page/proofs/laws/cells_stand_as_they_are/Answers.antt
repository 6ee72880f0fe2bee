use Rattle.bf_page.proofs.SafeFacts.{cells_stand}
use Rattle.bf_page.proofs.laws.cells_stand_as_they_are.Goals as goal

pub returns : goal.returns
returns c = cells_stand
