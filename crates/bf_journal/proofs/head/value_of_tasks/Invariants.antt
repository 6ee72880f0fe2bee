use Rattle.std.proofs.Common.{◌≡◌, map, take}
use Rattle.bf_journal.specs.Heads.{task_value}
use Rattle.bf_journal.proofs.head.value_of_tasks.Given as goal

abbrev pub invariant-loop-task : goal.invariant-loop-task
invariant-loop-task l = l.tasks.items ≡ map (task_value l.dag) (take l.task-index l.dag.tasks)
