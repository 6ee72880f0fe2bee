use Rattle.std.proofs.Common.{◌≡◌, map, drop}
use Rattle.bf_grid.specs.Legend.{has_mark_in}
use Rattle.bf_grid.proofs.legend.has_mark.Given as goal

abbrev pub invariant-loop-run : goal.invariant-loop-run
invariant-loop-run l = has_mark_in (map (λ run. run.now) l.runs) l.mark l.task ≡ has_mark_in (map (λ run. run.now) (drop l.run-index l.runs)) l.mark l.task
