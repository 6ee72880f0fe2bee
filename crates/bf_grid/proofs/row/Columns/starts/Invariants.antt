use Rattle.std.proofs.Common.{◌≡◌, map}
use Rattle.bf_grid.specs.Grid.{column_starts}
use Rattle.bf_grid.proofs.row.Columns.starts.Given as goal

abbrev pub invariant-loop-place : goal.invariant-loop-place
invariant-loop-place l = map (λ start. start.at.nanosecond) l.starts.items ≡ column_starts l.place l.self.each (map (λ run. run.now) l.self.runs.now)
