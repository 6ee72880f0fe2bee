use Rattle.bf_read.proofs.TaskLemmas.{tasks_count}
use Rattle.bf_read.proofs.tasks.refuse_too_many_tasks.Goals as goal

pub returns-clause-exact : goal.returns-clause-exact
returns-clause-exact c = rw (tasks_count c.args.path c.args.items.now) c.refuse_beyond_limit.ensures.exact
