use Rattle.std.proofs.Common.{◌≡◌, map, take}
use Rattle.bf_grid.specs.FailedTasks.{id_width_of}
use Rattle.bf_grid.specs.inner.FoundTasks.{pair_of}
use Rattle.bf_grid.proofs.failed_tasks.id_width.Given as goal

abbrev pub invariant-loop-failing : goal.invariant-loop-failing
invariant-loop-failing l = l.longest ≡ id_width_of l.dag (map pair_of (take l.failing-index l.found))
