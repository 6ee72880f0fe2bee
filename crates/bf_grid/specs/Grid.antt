-- The parts of a grid, put together.
use Rattle.std.specs.Prelude.{ℕ, ◌+◌, ◌*◌, ◌==◌, if◌then◌else◌, ℤ, pos, Bool, List, [], ◌∷◌, ◌++◌, length, map, replicate, Option, None, Some, slice_get, codes}
use Rattle.std.specs.Int.{div_ceil}
use Rattle.std.specs.List.{flat_map, range_with_len}
use Rattle.bf_plan.specs.declared.plan.Dag.{Dag}
use Rattle.bf_plan.specs.Plans.{task_of}
use Rattle.bf_report.specs.declared.report.Report.{Report}
use Rattle.bf_report.specs.declared.report.RunReport.{RunReport}
use Rattle.bf_marks.specs.declared.widths.Widths.{Widths}
use Rattle.bf_marks.specs.declared.label.Scale.{Scale}
use Rattle.bf_marks.specs.declared.tally.Tally.{Tally}
use Rattle.bf_marks.specs.declared.view.View.{View}
use Rattle.bf_grid.specs.FailedTasks.{failing_of, failing_text}
use Rattle.bf_marks.specs.Widths.{heads_text, column_count_in, widths_of}
use Rattle.bf_grid.specs.Selection.{name_width_of, names_of, shown_runs_of, shown_tasks_of}
use Rattle.bf_marks.specs.Labels.{counted, digits_at, groups_of, groups_text, scale_of, unit_place_of}
use Rattle.bf_marks.specs.CellMarks.{column_mark}
use Rattle.bf_marks.specs.RowOrder.{order_of}
use Rattle.bf_grid.specs.GridRows.{by_column, column_state, line, row}
use Rattle.bf_marks.specs.Tallies.{runs_tally, states_tally, sum}
use Rattle.bf_grid.specs.Summary.{each_line, head_line, left_out_line}
use Rattle.bf_grid.specs.Legend.{legend_of}

-- a start that isn't there is 1970
abbrev pub start_or : Option RunReport → ℤ
start_or None = pos 0
start_or (Some run) = run.interval.start.nanosecond

-- of the first run of each column
abbrev pub column_starts : ℕ → ℕ → List RunReport → List ℤ
column_starts count each runs =
    map (λ place. start_or (slice_get runs (place * each))) (range_with_len 0 count)

-- two spaces stand behind names
abbrev pub margin : ℕ → List ℕ
margin names = replicate (names + 2) 32

-- the groups, and two lines of digits, with the marks of the sums behind the second
abbrev pub label_lines : ℕ → Widths → Scale → List ℤ → List ℕ
label_lines names widths scale starts =
    line (margin names ++ groups_text scale (counted (groups_of scale starts)))
    ++ (line (margin names ++ digits_at (unit_place_of scale) starts)
    ++ line (margin names ++ (digits_at (unit_place_of scale + 1) starts
    ++ (32 ∷ 32 ∷ heads_text widths))))

abbrev pub total_of : List RunReport → List ℕ → Tally
total_of runs tasks = sum (map (λ task. runs_tally task runs) tasks)

abbrev pub task_row : ℕ → Widths → Bool → Dag → ℕ → ℕ → List RunReport → ℕ → List ℕ
task_row names widths colored dag count each runs task =
    row names widths colored (task_of dag task).id (by_column count each (column_mark task) runs)
    (runs_tally task runs)

-- labels, the row of the runs, those of the tasks, and the legend
abbrev pub rows_text : ℕ → Widths → Bool → Dag → ℕ → ℕ → List RunReport → List ℕ → List ℕ
rows_text names widths colored dag count each runs tasks =
    label_lines names widths (scale_of (column_starts count each runs))
    (column_starts count each runs)
    ++ (row names widths colored (codes "run") (by_column count each column_state runs)
    (states_tally runs)
    ++ (flat_map (task_row names widths colored dag count each runs) tasks
    ++ legend_of colored runs tasks))

-- ---- the whole

-- where these runs and tasks are shown, with names so wide, sums so wide, and so many runs a column
abbrev pub table_by : Bool → Dag → List RunReport → List ℕ → ℕ → Widths → ℕ → List ℕ
table_by colored dag runs tasks names widths each =
    each_line each ++ 10 ∷ (rows_text names widths colored dag
    (div_ceil (length runs) each) each runs tasks ++ failing_text dag (failing_of runs tasks))

abbrev pub table_with : View → Dag → List RunReport → List ℕ → ℕ → Widths → List ℕ
table_with view dag runs tasks names widths =
    table_by view.colored dag runs tasks names widths
    (div_ceil (length runs) (column_count_in view.width names widths))

abbrev pub table_text : View → Dag → List RunReport → List ℕ → List ℕ
table_text view dag runs tasks =
    table_with view dag runs tasks (name_width_of view.width (names_of dag tasks))
    (widths_of (total_of runs tasks) (states_tally runs))

-- no table is there without runs
abbrev pub table_if : View → Dag → List RunReport → List ℕ → List ℕ
table_if view dag runs tasks = if length runs == 0 then [] else table_text view dag runs tasks

abbrev pub below_head : View → Dag → List RunReport → List RunReport → List ℕ → List ℕ
below_head view dag all runs tasks =
    left_out_line (length runs) (length all) (length tasks) (length dag.tasks)
    ++ table_if view dag runs tasks

abbrev pub body_text : View → Dag → List RunReport → List ℕ
body_text view dag runs =
    below_head view dag runs (shown_runs_of view runs)
    (shown_tasks_of view (shown_runs_of view runs) (order_of dag))

-- without runs the head is all
abbrev pub body_if : View → Dag → List RunReport → List ℕ
body_if view dag runs = if length runs == 0 then [] else body_text view dag runs

abbrev pub grid_text : View → Dag → Report → List ℕ
grid_text view dag report =
    head_line view.colored dag.id report.runs ++ body_if view dag report.runs
