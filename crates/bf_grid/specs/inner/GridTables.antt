-- Tables, as they are put together.
use Rattle.std.specs.Prelude.{ℕ, List, map}
use Rattle.bf_report.specs.declared.report.RunReport.{RunReport}
use Rattle.bf_grid.specs.declared.grid_table.Table.{Table}
use Rattle.bf_grid.specs.Grid.{rows_text, task_row}

-- the runs that it shows
abbrev pub runs_in : Table → List RunReport
runs_in table = map (λ run. run.now) table.columns.runs.now

-- the row of a task
abbrev pub row_in : Table → ℕ → List ℕ
row_in table task =
    task_row table.layout.names table.layout.widths table.layout.colored table.dag.now
    table.columns.count table.columns.each (runs_in table) task

-- labels, rows and legend
abbrev pub text_in : Table → List ℕ
text_in table =
    rows_text table.layout.names table.layout.widths table.layout.colored table.dag.now
    table.columns.count table.columns.each (runs_in table) table.tasks.now
