-- Which runs and tasks a grid shows, and how wide their names are.
use Rattle.std.specs.Prelude.{ℕ, ◌/◌, ◌&&◌, ◌||◌, min, max, not, Bool, List, length, map, fold, filter}
use Rattle.bf_plan.specs.declared.plan.Dag.{Dag}
use Rattle.bf_plan.specs.Plans.{task_of}
use Rattle.bf_report.specs.declared.report.RunReport.{RunReport}
use Rattle.bf_marks.specs.declared.view.View.{View}
use Rattle.bf_marks.specs.Tallies.{is_bad, run_tally_of, runs_tally}
use Rattle.bf_marks.specs.GridViews.{in_range}

abbrev pub is_shown_run_in : View → RunReport → Bool
is_shown_run_in view run =
    in_range view run.interval.start.nanosecond && (not view.failed || is_bad (run_tally_of run))

abbrev pub shown_runs_of : View → List RunReport → List RunReport
shown_runs_of view runs = filter (is_shown_run_in view) runs

-- beside the runs that are shown
abbrev pub is_shown_task_in : View → List RunReport → ℕ → Bool
is_shown_task_in view runs task = not view.failed || is_bad (runs_tally task runs)

-- of the tasks in their order
abbrev pub shown_tasks_of : View → List RunReport → List ℕ → List ℕ
shown_tasks_of view runs order = filter (is_shown_task_in view runs) order

-- ---- names

abbrev pub names_of : Dag → List ℕ → List (List ℕ)
names_of dag tasks = map (λ task. (task_of dag task).id) tasks

abbrev pub longest_id_length_of : List (List ℕ) → ℕ
longest_id_length_of names = fold (λ n name. max n (length name)) 3 names

-- a third of the width, and at least 12, is enough
abbrev pub name_width_of : ℕ → List (List ℕ) → ℕ
name_width_of width names = min (longest_id_length_of names) (max 12 (width / 3))
