-- Whether a report is one of a plan over data intervals.
use Rattle.std.specs.Prelude.{◌≡◌, ◌⊎◌, ℕ, ◌==◌, ◌&&◌, ◌||◌, Bool, true, false, All, List, [], ◌∷◌, length, map, Option, Some, None, option_map, slice_get}
use Rattle.std.specs.List.{list_all, zip}
use Rattle.std.specs.Ordering.{int_eq}
use Rattle.std.specs.Str.{bytes_eq}
use Rattle.bf_interval.specs.declared.interval.Interval.{Interval}
use Rattle.bf_plan.specs.declared.plan.Task.{Task}
use Rattle.bf_plan.specs.declared.plan.Dag.{Dag}
use Rattle.bf_report.specs.declared.report.Version.{Version}
use Rattle.bf_report.specs.declared.report.Pull.{Pull}
use Rattle.bf_report.specs.declared.report.InstanceReport.{InstanceReport}
use Rattle.bf_report.specs.declared.report.TaskReport.{TaskReport}
use Rattle.bf_report.specs.declared.report.RunReport.{RunReport}
use Rattle.bf_report.specs.declared.report.Report.{Report}
use Rattle.bf_dependents.specs.declared.fault.ClearFault.{ClearFault}

-- the instances that are told of a task
abbrev pub instances_told : TaskReport → List InstanceReport
instances_told (TaskReport.Ran instance) = instance ∷ []
instances_told (TaskReport.Mapped instances) = instances
instances_told _ = []

-- the ids of the tasks that it pulls from; None for a number that no task has
abbrev pub ids_pulled : Dag → Task → List (Option (List ℕ))
ids_pulled dag task =
    map (λ source. option_map (λ (other : Task). other.id) (slice_get dag.tasks source)) task.pulls

-- each instance pulled from the tasks that its task pulls from, in order
abbrev pub HasPulls : Dag → TaskReport → Task → Type 0
HasPulls dag report task =
    All (λ (instance : InstanceReport). map (λ pull. Some pull.task) instance.pulls
    ≡ ids_pulled dag task) (instances_told report)

-- the report is one of the plan's dag over these data intervals; one without runs tells no ids
pub record MatchesPlan (dag : Dag) (intervals : List Interval) (report : Report) : Type 0 where
  pub dag_id : report.dag_id ≡ dag.id
  pub ids : (intervals ≡ []) ⊎ (report.tasks ≡ map (λ (task : Task). task.id) dag.tasks)
  pub runs : map (λ (run : RunReport). run.interval) report.runs ≡ intervals
  pub sizes : All (λ (run : RunReport). length run.tasks ≡ length dag.tasks) report.runs
  pub pulls : report.version ≡ Version.Two → All (λ (run : RunReport).
      All (λ (pair : TaskReport × Task). HasPulls dag pair.0 pair.1) (zip run.tasks dag.tasks))
      report.runs

-- a report is refused for this: it doesn't match; or memory is wanting
abbrev pub IsRefusedFor : Type 0 → ClearFault → Type 0
IsRefusedFor Matches ClearFault.ReportMismatch = Matches → ⊥
IsRefusedFor Matches ClearFault.OutOfMemory = Unit {0}
IsRefusedFor Matches _ = ⊥

-- ---- as a test

-- there is a task, and this is its id
abbrev pub has_id_in : Option Task → List ℕ → Bool
has_id_in None id = false
has_id_in (Some task) id = bytes_eq id task.id

-- the ids of the tasks, in file order
abbrev pub are_ids_in : List (List ℕ) → List Task → Bool
are_ids_in ids tasks =
    (length ids == length tasks) && list_all (λ pair. has_id_in (Some pair.1) pair.0)
    (zip ids tasks)

-- a pull from the task
abbrev pub is_pull_in : Dag → Pull → ℕ → Bool
is_pull_in dag pull source = has_id_in (slice_get dag.tasks source) pull.task

-- the instance pulled from what the task pulls from, in order
abbrev pub has_pulls_in : Dag → Task → InstanceReport → Bool
has_pulls_in dag task instance =
    (length instance.pulls == length task.pulls)
    && list_all (λ pair. is_pull_in dag pair.0 pair.1) (zip instance.pulls task.pulls)

-- in version 2 each instance of the task has the task's pulls
abbrev pub is_task_in : Version → Dag → TaskReport → Task → Bool
is_task_in Version.Two dag (TaskReport.Ran instance) task = has_pulls_in dag task instance
is_task_in Version.Two dag (TaskReport.Mapped instances) task =
    list_all (has_pulls_in dag task) instances
is_task_in version dag report task = true

abbrev pub are_tasks_in : Version → Dag → List TaskReport → Bool
are_tasks_in version dag reports =
    (length reports == length dag.tasks)
    && list_all (λ pair. is_task_in version dag pair.0 pair.1) (zip reports dag.tasks)

-- the two data intervals have one start and one end
abbrev pub is_same_interval_in : Interval → Interval → Bool
is_same_interval_in one other =
    int_eq one.start.nanosecond other.start.nanosecond
    && int_eq one.end.nanosecond other.end.nanosecond

abbrev pub is_run_in : Version → Dag → RunReport → Interval → Bool
is_run_in version dag run interval =
    is_same_interval_in run.interval interval && are_tasks_in version dag run.tasks

abbrev pub are_runs_in : Version → Dag → List RunReport → List Interval → Bool
are_runs_in version dag runs intervals =
    (length runs == length intervals)
    && list_all (λ pair. is_run_in version dag pair.0 pair.1) (zip runs intervals)

-- the report matches the plan (law `reports_match_by_equations`)
unfoldable pub is_report_in : Dag → List Interval → Report → Bool
is_report_in dag intervals report =
    bytes_eq report.dag_id dag.id
    && ((length intervals == 0 || are_ids_in report.tasks dag.tasks)
    && are_runs_in report.version dag report.runs intervals)
