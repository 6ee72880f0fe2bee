use Rattle.std.proofs.Common.{◌≡◌, map, take}
use Rattle.bf_grid.specs.Grid.{total_of}
use Rattle.bf_grid.proofs.selection.total_in.Given as goal

abbrev pub invariant-loop-task : goal.invariant-loop-task
invariant-loop-task l = l.total ≡ total_of (map (λ run. run.now) l.runs) (take l.task-index l.tasks)
