use Rattle.std.proofs.Common.{◌≡◌, ◌++◌, drop}
use Rattle.bf_core.specs.Events.{cell_at}
use Rattle.bf_report.specs.Dated.{reports_from}
use Rattle.bf_report.specs.Values.{AreSoundTasks}
use Rattle.bf_report.proofs.dated.task_reports.Given as goal

abbrev pub invariant-loop-task : goal.invariant-loop-task
invariant-loop-task l = record {
  reports : l.reports.items ++ reports_from l.dag (cell_at l.state l.run) l.task (drop l.task l.dag.tasks) ≡ reports_from l.dag (cell_at l.state l.run) 0 l.dag.tasks;
  sound : AreSoundTasks l.reports.items;
}
