use Rattle.std.proofs.Common.{◌≡◌, map, take}
use Rattle.bf_grid.specs.Selection.{shown_tasks_of}
use Rattle.bf_grid.proofs.selection.shown_tasks.Given as goal

abbrev pub invariant-loop-task : goal.invariant-loop-task
invariant-loop-task l = l.found.items ≡ shown_tasks_of l.view (map (λ run. run.now) l.runs) (take l.task-index l.tasks)
