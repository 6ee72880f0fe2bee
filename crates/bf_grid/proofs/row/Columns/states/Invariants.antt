use Rattle.std.proofs.Common.{◌≡◌, map}
use Rattle.bf_grid.specs.GridRows.{by_column, column_state}
use Rattle.bf_grid.proofs.row.Columns.states.Given as goal

abbrev pub invariant-loop-place : goal.invariant-loop-place
invariant-loop-place l = l.marks.items ≡ by_column l.place l.self.each column_state (map (λ run. run.now) l.self.runs.now)
