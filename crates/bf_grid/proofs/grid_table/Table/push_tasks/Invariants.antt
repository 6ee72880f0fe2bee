use Rattle.std.proofs.Common.{◌≡◌, ◌++◌, take}
use Rattle.std.specs.List.{flat_map}
use Rattle.bf_grid.specs.inner.GridTables.{row_in}
use Rattle.bf_grid.proofs.grid_table.Table.push_tasks.Given as goal

abbrev pub invariant-loop-task : goal.invariant-loop-task
invariant-loop-task l = l.text.items ≡ l.fn.text.items ++ flat_map (row_in l.self) (take l.task-index l.task-items)
