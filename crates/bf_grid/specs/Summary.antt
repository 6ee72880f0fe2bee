-- What stands above a grid.
use Rattle.std.specs.Prelude.{ℕ, ◌-◌, ◌==◌, ◌&&◌, nat_lt, if◌then◌else◌, Bool, List, [], ◌++◌, length, Option, Some, slice_get, codes, decimal}
use Rattle.bf_report.specs.declared.report.RunReport.{RunReport}
use Rattle.bf_marks.specs.CellMarks.{painted}
use Rattle.bf_marks.specs.Tallies.{states_tally}
use Rattle.bf_wording.specs.Numbers.{number_text, count_text_of}
use Rattle.bf_wording.specs.Moments.{short_moment_of}

abbrev pub dates_of : Option RunReport → Option RunReport → List ℕ
dates_of (Some first) (Some last) =
    codes "  " ++ (short_moment_of first.interval.start.nanosecond
    ++ (codes " to " ++ short_moment_of last.interval.start.nanosecond))
dates_of first last = []

-- the first and the last start
abbrev pub dates : List RunReport → List ℕ
dates runs = dates_of (slice_get runs 0) (slice_get runs (length runs - 1))

abbrev pub head_line : Bool → List ℕ → List RunReport → List ℕ
head_line colored dag_id runs =
    painted colored (codes "1") dag_id
    ++ (dates runs ++ (codes "  " ++ (count_text_of (length runs) (codes "run")
    ++ (codes ", " ++ (number_text (states_tally runs).failed ++ codes " failed\n")))))

-- how many are shown of how many
abbrev pub shown_of : ℕ → ℕ → List ℕ → List ℕ
shown_of shown all noun = number_text shown ++ (codes " of " ++ count_text_of all noun)

abbrev pub shown_line : ℕ → ℕ → ℕ → ℕ → List ℕ
shown_line runs all_runs tasks all_tasks =
    codes "shown: " ++ (shown_of runs all_runs (codes "run")
    ++ (codes ", " ++ (shown_of tasks all_tasks (codes "task") ++ codes "\n")))

-- where runs or tasks are left out
abbrev pub left_out_line : ℕ → ℕ → ℕ → ℕ → List ℕ
left_out_line runs all_runs tasks all_tasks =
    if (runs == all_runs) && (tasks == all_tasks) then []
    else shown_line runs all_runs tasks all_tasks

abbrev pub many_line : ℕ → List ℕ
many_line each =
    codes "a column is " ++ (decimal each ++ codes " runs, and shows the worst of them\n")

abbrev pub each_line : ℕ → List ℕ
each_line each = if nat_lt 1 each then many_line each else []
