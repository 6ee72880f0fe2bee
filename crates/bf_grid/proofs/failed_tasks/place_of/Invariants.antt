use Rattle.std.proofs.Common.{◌≡◌, ◌+◌, drop}
use Rattle.bf_grid.specs.inner.FoundTasks.{first_fewer}
use Rattle.bf_grid.proofs.failed_tasks.place_of.Given as goal

abbrev pub invariant-loop-place : goal.invariant-loop-place
invariant-loop-place l = first_fewer l.count l.found ≡ l.place + first_fewer l.count (drop l.place l.found)
