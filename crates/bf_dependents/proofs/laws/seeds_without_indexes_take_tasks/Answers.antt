use Rattle.bf_dependents.proofs.Least.{whole_tasks}
use Rattle.bf_dependents.proofs.laws.seeds_without_indexes_take_tasks.Goals as goal

pub returns : goal.returns
returns c = whole_tasks
