use Rattle.std.proofs.Common.{◌≡◌, map, take}
use Rattle.bf_grid.specs.FailedTasks.{failed_starts_of}
use Rattle.bf_grid.proofs.failed_tasks.failed_starts.Given as goal

abbrev pub invariant-loop-run : goal.invariant-loop-run
invariant-loop-run l = map (λ start. start.at.nanosecond) l.starts.items ≡ failed_starts_of (map (λ run. run.now) (take l.run-index l.runs)) l.task
