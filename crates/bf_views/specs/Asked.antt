-- Which run of a report and which task a line asks about, and what of it isn't there.
use Rattle.std.specs.Prelude.{◌≡◌, ℕ, ℤ, ◌&&◌, not, Bool, true, false, List, Option, None, Some, is_none, option_and_then, position, slice_get, string_bytes}
use Rattle.std.specs.Ordering.{int_eq}
use Rattle.std.specs.Str.{bytes_eq}
use Rattle.bf_plan.specs.declared.plan.Dag.{Dag}
use Rattle.bf_plan.specs.Plans.{shape_of}
use Rattle.bf_report.specs.declared.report.TaskReport.{TaskReport}
use Rattle.bf_report.specs.declared.report.RunReport.{RunReport}
use Rattle.bf_report.specs.declared.report.Report.{Report}
use Rattle.bf_dependents.specs.declared.fault.ClearFault.{ClearFault}
use Rattle.bf_command_line.specs.declared.forms.TaskAsked.{TaskAsked}
use Rattle.bf_command_fault.specs.declared.fault.CommandFault.{CommandFault}
use Rattle.bf_command_fault.specs.declared.fault.CommandFault.TheVariants.{Clear, UnknownIndex}
use Rattle.bf_explain.specs.Headings.{has_index_in}
use Rattle.bf_views.specs.Matching.{is_of_graph}

-- the task of the id
abbrev pub task_number : Dag → TaskAsked → Option ℕ
task_number dag task = position (bytes_eq (string_bytes task.id)) (shape_of dag).ids

-- the run that starts at the moment
abbrev pub run_number : Report → ℤ → Option ℕ
run_number report start = position (λ run. int_eq run.interval.start.nanosecond start) report.runs

abbrev pub told_in : Option RunReport → ℕ → Option TaskReport
told_in None task = None
told_in (Some run) task = slice_get run.tasks task

-- the map index is of an instance of the task
abbrev pub is_index_of : Option ℤ → Option TaskReport → Bool
is_index_of index None = true
is_index_of index (Some told) = has_index_in told index

abbrev pub is_index_at : Report → Option ℤ → ℕ → ℕ → Bool
is_index_at report index run task = is_index_of index (told_in (slice_get report.runs run) task)

-- ---- of a run

abbrev pub run_fault_by : Bool → Option ℕ → Option CommandFault
run_fault_by matches None = Some (Clear ClearFault.UnknownRun)
run_fault_by false (Some run) = Some (Clear ClearFault.ReportMismatch)
run_fault_by true (Some run) = None

-- there is no such run, or the report isn't one of the graph
abbrev pub run_fault : Dag → Report → ℤ → Option CommandFault
run_fault dag report start = run_fault_by (is_of_graph dag report) (run_number report start)

-- ---- of a task in it

abbrev pub index_fault : Bool → Option CommandFault
index_fault true = None
index_fault false = Some UnknownIndex

abbrev pub task_fault_by : Bool → Report → Option ℤ → Option ℕ → Option ℕ → Option CommandFault
task_fault_by matches report index None run = Some (Clear ClearFault.UnknownTask)
task_fault_by matches report index (Some task) None = Some (Clear ClearFault.UnknownRun)
task_fault_by false report index (Some task) (Some run) = Some (Clear ClearFault.ReportMismatch)
task_fault_by true report index (Some task) (Some run) =
    index_fault (is_index_at report index run task)

-- there is no such task, else no such run, else the report isn't one of the graph, or there is no such instance
abbrev pub task_fault : Dag → Report → ℤ → TaskAsked → Option CommandFault
task_fault dag report start task =
    task_fault_by (is_of_graph dag report) report task.index (task_number dag task)
    (run_number report start)

-- the first fault of what is asked
abbrev pub asked_fault : Dag → Report → ℤ → Option TaskAsked → Option CommandFault
asked_fault dag report start None = run_fault dag report start
asked_fault dag report start (Some task) = task_fault dag report start task
