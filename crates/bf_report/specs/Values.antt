-- Reports whose values a text can say.
use Rattle.std.specs.Prelude.{List, Option, Some, None}
use Rattle.std.specs.List.{AllByRecursion}
use Rattle.bf_value.specs.Plain.{IsSound}
use Rattle.bf_value.specs.Views.{plain_of}
use Rattle.bf_value.specs.declared.xval.Xval.{Xval}
use Rattle.bf_xcom.specs.declared.values.Outcome.{Outcome}
use Rattle.bf_xcom.specs.declared.values.Outcome.TheVariants.{Success, Failed, Skipped}
use Rattle.bf_report.specs.declared.report.Pull.{Pull}
use Rattle.bf_report.specs.declared.report.InstanceReport.{InstanceReport}
use Rattle.bf_report.specs.declared.report.TaskReport.{TaskReport}
use Rattle.bf_report.specs.declared.report.RunReport.{RunReport}
use Rattle.bf_report.specs.declared.report.Report.{Report}

-- the numbers of a value, where there is one, fit 64 bits, and its texts are UTF-8
abbrev pub IsSoundValue : Option Xval → Type 0
IsSoundValue None = Unit {0}
IsSoundValue (Some value) = IsSound (plain_of value)

-- what was pushed is sound, where something was
abbrev pub IsSoundOutcome : Outcome → Type 0
IsSoundOutcome (Success value) = IsSoundValue value
IsSoundOutcome Failed = Unit {0}
IsSoundOutcome Skipped = Unit {0}

abbrev pub AreSoundPulls : List Pull → Type 0
AreSoundPulls pulls = AllByRecursion (λ pull. IsSoundValue pull.value) pulls

-- what was pushed, the item and what was pulled are sound
pub record IsSoundInstance (instance : InstanceReport) : Type 0 where
  pub outcome : IsSoundOutcome instance.result.outcome
  pub item : IsSoundValue instance.item
  pub pulls : AreSoundPulls instance.pulls

abbrev pub AreSoundInstances : List InstanceReport → Type 0
AreSoundInstances instances = AllByRecursion IsSoundInstance instances

abbrev pub IsSoundTask : TaskReport → Type 0
IsSoundTask TaskReport.NoStatus = Unit {0}
IsSoundTask TaskReport.Skipped = Unit {0}
IsSoundTask TaskReport.UpstreamFailed = Unit {0}
IsSoundTask (TaskReport.Ran instance) = IsSoundInstance instance
IsSoundTask (TaskReport.Mapped instances) = AreSoundInstances instances

abbrev pub AreSoundTasks : List TaskReport → Type 0
AreSoundTasks tasks = AllByRecursion IsSoundTask tasks

abbrev pub AreSoundRuns : List RunReport → Type 0
AreSoundRuns runs = AllByRecursion (λ run. AreSoundTasks run.tasks) runs

-- all values in the report are sound
abbrev pub HasSoundValues : Report → Type 0
HasSoundValues report = AreSoundRuns report.runs
