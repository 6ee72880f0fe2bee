use Rattle.std.proofs.Common.{◌≡◌, map, drop}
use Rattle.bf_grid.specs.Legend.{is_seen_in}
use Rattle.bf_grid.proofs.legend.is_seen.Given as goal

abbrev pub invariant-loop-task : goal.invariant-loop-task
invariant-loop-task l = is_seen_in (map (λ run. run.now) l.runs) l.tasks l.mark ≡ is_seen_in (map (λ run. run.now) l.runs) (drop l.task-index l.tasks) l.mark
