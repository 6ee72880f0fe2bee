use Rattle.bf_show.proofs.ReadFacts.{untried_read}
use Rattle.bf_show.proofs.laws.untried_tasks_are_read_back.Goals as goal

pub returns : goal.returns
returns c = untried_read
