use Rattle.std.proofs.Common.{◌≡◌, map, take}
use Rattle.bf_grid.specs.Selection.{shown_runs_of}
use Rattle.bf_grid.proofs.selection.shown_runs.Given as goal

abbrev pub invariant-loop-run : goal.invariant-loop-run
invariant-loop-run l = map (λ run. run.now) l.found.items ≡ shown_runs_of l.view (take l.run-index l.runs)
