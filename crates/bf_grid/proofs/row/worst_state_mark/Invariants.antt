use Rattle.std.proofs.Common.{◌≡◌, map, take}
use Rattle.bf_grid.specs.GridRows.{column_state}
use Rattle.bf_grid.proofs.row.worst_state_mark.Given as goal

abbrev pub invariant-loop-run : goal.invariant-loop-run
invariant-loop-run l = l.worst ≡ column_state (map (λ run. run.now) (take l.run-index l.runs))
