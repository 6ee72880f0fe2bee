-- The tasks of a run of a report, and of the run before.
use Rattle.std.specs.Prelude.{ℕ, zero, suc, List, [], Option, None, Some, slice_get}
use Rattle.bf_report.specs.declared.report.TaskReport.{TaskReport}
use Rattle.bf_report.specs.declared.report.RunReport.{RunReport}
use Rattle.bf_report.specs.declared.report.Report.{Report}

abbrev pub tasks_in_run : Option RunReport → List TaskReport
tasks_in_run None = []
tasks_in_run (Some run) = run.tasks

abbrev pub tasks_in : Report → ℕ → List TaskReport
tasks_in report run = tasks_in_run (slice_get report.runs run)

abbrev pub tasks_before : Report → ℕ → List TaskReport
tasks_before report zero = []
tasks_before report (suc run) = tasks_in report run
