-- The tries that a report tells of.
use Rattle.std.specs.Prelude.{ℕ, zero, ℤ, pos, negsuc, ◌==◌, ◌&&◌, nat_lt, if◌then◌else◌, List, [], ◌∷◌, map, Option, Some, None, option_map, option_and_then, slice_get}
use Rattle.bf_value.specs.declared.xval.Xval.{Xval}
use Rattle.bf_value.specs.declared.xval.Xval.TheVariants.{List as ListOf}
use Rattle.bf_value.specs.Views.{xvals_of}
use Rattle.bf_plan.specs.declared.plan.Dag.{Dag}
use Rattle.bf_plan.specs.Plans.{task_of}
use Rattle.bf_xcom.specs.declared.values.Given.{Given}
use Rattle.bf_xcom.specs.declared.values.Outcome.{Outcome}
use Rattle.bf_xcom.specs.declared.values.TaskResult.{TaskResult}
use Rattle.bf_xcom.specs.declared.values.TaskValue.{TaskValue}
use Rattle.bf_xcom.specs.Pulls.{pull_of}
use Rattle.bf_try.specs.declared.ledger.Entry.{Entry}
use Rattle.bf_try.specs.Tries.{Ledger}
use Rattle.bf_report.specs.declared.report.Version.{Version}
use Rattle.bf_report.specs.declared.report.InstanceReport.{InstanceReport}
use Rattle.bf_report.specs.declared.report.TaskReport.{TaskReport}
use Rattle.bf_report.specs.declared.report.Report.{Report}

-- ---- what stands in a report

-- what came of the task in the run of this number
abbrev pub report_at : Report → ℕ → ℕ → Option TaskReport
report_at report number task =
    option_and_then (λ run. slice_get run.tasks task) (slice_get report.runs number)

abbrev pub instance_in : TaskReport → ℤ → Option InstanceReport
instance_in (TaskReport.Ran instance) (negsuc zero) = Some instance
instance_in (TaskReport.Mapped instances) (pos place) = slice_get instances place
instance_in _ _ = None

-- the instance of that index of the task in the run
abbrev pub found_at : Report → ℕ → ℕ → ℤ → Option InstanceReport
found_at report run task index =
    option_and_then (λ instance. instance_in instance index) (report_at report run task)

-- ---- what an instance was given

-- version 2 tells it
abbrev pub given_in : InstanceReport → Given
given_in instance =
    record { item = instance.item; pulled = map (λ pull. pull.value) instance.pulls }

-- version 1 tells what the tasks pushed
abbrev pub value_in : TaskReport → TaskValue
value_in TaskReport.NoStatus = TaskValue.Blocked
value_in TaskReport.Skipped = TaskValue.Skipped
value_in TaskReport.UpstreamFailed = TaskValue.UpstreamFailed
value_in (TaskReport.Ran instance) = TaskValue.Ran (instance.result ∷ [])
value_in (TaskReport.Mapped instances) = TaskValue.Ran (map (λ instance. instance.result) instances)

abbrev pub value_by : Option TaskReport → TaskValue
value_by None = TaskValue.Blocked
value_by (Some task) = value_in task

-- the value of the task in the run
abbrev pub value_reported_at : Report → ℕ → ℕ → TaskValue
value_reported_at report run task = value_by (report_at report run task)

-- what a pull from a task gave in the run
abbrev pub pull_from : Dag → Report → ℕ → ℕ → Option Xval
pull_from dag report run source =
    option_and_then (λ task. pull_of task (value_reported_at report run source))
    (slice_get dag.tasks source)

-- the item of that index, of a list
abbrev pub item_in : Option Xval → ℤ → Option Xval
item_in (Some (ListOf values)) (pos place) = slice_get (xvals_of values) place
item_in _ _ = None

-- what an instance is given: of an expanded task its item, which stands in the list that a pull from the source gave
abbrev pub given_of : (ℕ → Option Xval) → List (Option Xval) → Option ℕ → ℤ → Option Given
given_of from pulled None (negsuc zero) = Some (record { item = None; pulled = pulled })
given_of from pulled None _ = None
given_of from pulled (Some source) index =
    option_map (λ item. record { item = Some item; pulled = pulled }) (item_in (from source) index)

-- what the values of the report give the instance of that index of the task in the run
unfoldable pub given_by_values_in : Dag → Report → ℕ → ℕ → ℤ → Option Given
given_by_values_in dag report run task index =
    given_of (pull_from dag report run) (map (pull_from dag report run) (task_of dag task).pulls)
    (task_of dag task).expand index

-- what an instance was given, by the version of the report
abbrev pub given_by : Version → Option Given → InstanceReport → Option Given
given_by Version.One worked instance = worked
given_by Version.Two worked instance = Some (given_in instance)

-- ---- tries

-- the outcome of a try: those before the last failed
abbrev pub outcome_of_try_in : TaskResult → ℕ → Option Outcome
outcome_of_try_in result attempt =
    if attempt == result.tries then Some result.outcome
    else (if nat_lt 0 attempt && nat_lt attempt result.tries then Some Outcome.Failed else None)

abbrev pub entry_of_try : TaskResult → ℕ → Option Given → Option Entry
entry_of_try result attempt None = None
entry_of_try result attempt (Some given) =
    option_map (λ outcome. record {
      given = given;
      outcome = outcome;
    }) (outcome_of_try_in result attempt)

abbrev pub entry_by : Version → Option Given → Option InstanceReport → ℕ → Option Entry
entry_by version worked None attempt = None
entry_by version worked (Some instance) attempt =
    entry_of_try instance.result attempt (given_by version worked instance)

-- the entries that a report tells of, by their names: version 2 tells what they were given, and for version 1 it is worked out
unfoldable pub told : Dag → Report → Ledger
told dag report name =
    entry_by report.version (given_by_values_in dag report name.run name.task name.index)
    (found_at report name.run name.task name.index) name.attempt
