-- The run whose tasks are read.
use Rattle.std.specs.Prelude.{List, Option}
use Rattle.bf_report.specs.declared.report.InstanceReport.{InstanceReport}
use Rattle.bf_report.specs.declared.report.RunReport.{RunReport}

-- a task that may have more lines, or more instances: those before the last, where it is expanded, and the last
pub record OpenTask : Type 0 where
  pub before : Option (List InstanceReport)
  pub instance : InstanceReport

-- a run with the tasks that have no more lines, and the task behind them that may have more
pub record RunSoFar : Type 0 where
  pub run : RunReport
  pub task : Option OpenTask
