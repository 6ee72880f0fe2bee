use Rattle.std.proofs.Common.{◌≡◌, ◌≤◌, take}
use Rattle.bf_grid.specs.Selection.{longest_id_length_of, names_of}
use Rattle.bf_grid.proofs.selection.longest_id_length.Given as goal

abbrev pub invariant-loop-task : goal.invariant-loop-task
invariant-loop-task l = (l.longest ≡ longest_id_length_of (names_of l.dag (take l.task-index l.tasks))) × (3 ≤ l.longest)
