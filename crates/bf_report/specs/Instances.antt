-- Instances, as a report tells of them.
use Rattle.std.specs.Prelude.{List, Option}
use Rattle.bf_value.specs.declared.xval.Xval.{Xval}
use Rattle.bf_xcom.specs.declared.values.TaskResult.{TaskResult}
use Rattle.bf_report.specs.declared.report.Pull.{Pull}

-- what came of an instance, its item, if it has one, and what it pulled, in the order of its task's pulls
pub record ReportedInstance : Type 0 where
  pub result : TaskResult
  pub item : Option Xval
  pub pulls : List Pull
