use Rattle.std.proofs.Common.{◌≡◌, ◌++◌, map, take}
use Rattle.std.specs.List.{flat_map}
use Rattle.bf_grid.specs.FailedTasks.{failing_line}
use Rattle.bf_grid.specs.inner.FoundTasks.{pair_of}
use Rattle.bf_grid.proofs.failed_tasks.push_lines.Given as goal

abbrev pub invariant-loop-failing : goal.invariant-loop-failing
invariant-loop-failing l = l.text.items ≡ l.fn.text.items ++ flat_map (failing_line l.dag l.longest l.widest) (map pair_of (take l.failing-index l.found))
