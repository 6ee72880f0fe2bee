use Rattle.std.proofs.Common.{◌≡◌, map, take}
use Rattle.bf_grid.specs.FailedTasks.{failing_of}
use Rattle.bf_grid.specs.inner.FoundTasks.{pair_of}
use Rattle.bf_grid.proofs.failed_tasks.failing_among.Given as goal

abbrev pub invariant-loop-task : goal.invariant-loop-task
invariant-loop-task l = map pair_of l.found.items ≡ failing_of (map (λ run. run.now) l.runs) (take l.task-index l.tasks)
