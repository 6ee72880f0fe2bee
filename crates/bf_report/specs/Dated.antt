-- The report of the recursion over dates.
use Rattle.std.specs.Prelude.{◌≡◌, ℕ, suc, Bool, true, false, List, [], ◌∷◌, map, Option, Some, None, is_some}
use Rattle.std.specs.List.{filter_map}
use Rattle.bf_value.specs.declared.xval.Xval.{Xval}
use Rattle.bf_interval.specs.declared.interval.Interval.{Interval}
use Rattle.bf_plan.specs.declared.plan.Task.{Task}
use Rattle.bf_plan.specs.declared.plan.Dag.{Dag}
use Rattle.bf_plan.specs.Plans.{task_of}
use Rattle.bf_xcom.specs.declared.values.Given.{Given}
use Rattle.bf_xcom.specs.declared.values.TaskResult.{TaskResult}
use Rattle.bf_try.specs.Tries.{Ledger}
use Rattle.bf_core.specs.declared.state.Cell.{Cell}
use Rattle.bf_core.specs.declared.state.Instance.{Instance}
use Rattle.bf_core.specs.declared.state.Phase.{Phase}
use Rattle.bf_core.specs.Terms.{result_of}
use Rattle.bf_core.specs.Recursion.{decided, out, run_state_of}
use Rattle.bf_core.specs.Agreement.{final_cell}
use Rattle.bf_report.specs.declared.report.Version.{Version}
use Rattle.bf_report.specs.declared.report.Pull.{Pull}
use Rattle.bf_report.specs.declared.report.InstanceReport.{InstanceReport}
use Rattle.bf_report.specs.declared.report.TaskReport.{TaskReport}
use Rattle.bf_report.specs.declared.report.RunReport.{RunReport}
use Rattle.bf_report.specs.declared.report.Report.{Report}

-- what came of the pulls from these tasks, each under its task's id
abbrev pub pulls_in : Dag → List ℕ → List (Option Xval) → List Pull
pulls_in dag [] values = []
pulls_in dag (source ∷ sources) [] = []
pulls_in dag (source ∷ sources) (value ∷ values) =
    record { task = (task_of dag source).id; value = value } ∷ pulls_in dag sources values

-- an instance of the task that was given this and came to this result
abbrev pub instance_report : Dag → ℕ → Given → TaskResult → InstanceReport
instance_report dag task given result =
    record {
      result = result;
      item = given.item;
      pulls = pulls_in dag (task_of dag task).pulls given.pulled;
    }

-- one that is in this phase of this attempt
abbrev pub reported_phase : Dag → ℕ → Given → ℕ → Phase → Option InstanceReport
reported_phase dag task given attempt (Phase.Finished outcome) =
    Some (instance_report dag task given (record { outcome = outcome; tries = attempt }))
reported_phase dag task given attempt Phase.Waiting = None
reported_phase dag task given attempt Phase.Running = None

-- what an instance of the task is reported as, once it has finished
abbrev pub reported_instance : Dag → ℕ → Instance → Option InstanceReport
reported_instance dag task instance =
    reported_phase dag task instance.given instance.attempt instance.phase

-- the instances of a task that ran: all of an expanded one, and the one of an unmapped task
abbrev pub reported_instances : Bool → List InstanceReport → TaskReport
reported_instances true instances = TaskReport.Mapped instances
reported_instances false (instance ∷ instances) = TaskReport.Ran instance
reported_instances false [] = TaskReport.NoStatus

-- what the task is reported as, by its cell
abbrev pub reported : Dag → ℕ → Cell → TaskReport
reported dag task Cell.Undecided = TaskReport.NoStatus
reported dag task Cell.Blocked = TaskReport.NoStatus
reported dag task Cell.Skipped = TaskReport.Skipped
reported dag task Cell.UpstreamFailed = TaskReport.UpstreamFailed
reported dag task (Cell.Ran instances) =
    reported_instances (is_some (task_of dag task).expand)
    (filter_map (reported_instance dag task) instances)

-- the reports of these tasks, of which the first stands in this place, in a run with these cells
abbrev pub reports_from : Dag → (ℕ → Cell) → ℕ → List Task → List TaskReport
reports_from dag cell place [] = []
reports_from dag cell place (first ∷ rest) =
    reported dag place (cell place) ∷ reports_from dag cell (suc place) rest

-- the cell that the recursion makes of the task in the run: its instances have the items and the pulled values, and
-- the results, that their entries in the ledger have
unfoldable pub cell_by : Dag → Ledger → ℕ → ℕ → Cell
cell_by dag ledger run task =
    final_cell (decided dag ledger run task) (result_of dag ledger run task)

-- the runs are those of the intervals, of which the first has this number, with the states and the cells of the recursion
abbrev pub AreDated : Dag → Ledger → ℕ → List Interval → List RunReport → Type 0
AreDated dag ledger number [] [] = Unit {0}
AreDated dag ledger number (interval ∷ intervals) (run ∷ runs) =
    (run.interval ≡ interval) × (run.state ≡ run_state_of dag (out dag ledger number))
    × (run.tasks ≡ reports_from dag (cell_by dag ledger number) 0 dag.tasks)
    × AreDated dag ledger (suc number) intervals runs
AreDated dag ledger number [] (run ∷ runs) = ⊥
AreDated dag ledger number (interval ∷ intervals) [] = ⊥

-- the ids of the tasks, in file order, which a report without runs doesn't have
abbrev pub ids_shown : Dag → List Interval → List (List ℕ)
ids_shown dag [] = []
ids_shown dag (interval ∷ intervals) = map (λ task. task.id) dag.tasks

-- the report is the recursion's over the ledger, and tells what the instances were given
pub record IsDated (dag : Dag) (intervals : List Interval) (ledger : Ledger)
    (report : Report) : Type 0 where
  pub version : report.version ≡ Version.Two
  pub dag_id : report.dag_id ≡ dag.id
  pub tasks : report.tasks ≡ ids_shown dag intervals
  pub runs : AreDated dag ledger 0 intervals report.runs
