-- What is changed of what stands last.
use Rattle.std.specs.Prelude.{List, [], ◌∷◌, ◌++◌, Option, Some, None}
use Rattle.bf_xcom.specs.declared.values.TaskResult.{TaskResult}
use Rattle.bf_report.specs.declared.report.InstanceReport.{InstanceReport}
use Rattle.bf_report.specs.declared.report.TaskReport.{TaskReport}
use Rattle.bf_report_reader.specs.declared.part.GivenPart.{GivenPart}
use Rattle.bf_report_reader.specs.Parting.{parted}
use Rattle.bf_report_reader.specs.Beginning.{untold}
use Rattle.bf_report_reader.specs.inner.Beginning.{with_told}

-- the last of these is another
abbrev pub put_last : {X : Type 0} → (X → X) → Option (List X × X) → List X
put_last change None = []
put_last change (Some (front, last)) = front ++ change last ∷ []

abbrev pub at_last : {X : Type 0} → (X → X) → List X → List X
at_last change all = put_last change (parted all)

-- the last instance of the task is told a part of what it was given
abbrev pub told_instances : GivenPart → List InstanceReport → List InstanceReport
told_instances part instances = at_last (λ instance. with_told instance part) instances

abbrev pub told_task : GivenPart → TaskReport → TaskReport
told_task part TaskReport.NoStatus = TaskReport.NoStatus
told_task part TaskReport.Skipped = TaskReport.Skipped
told_task part TaskReport.UpstreamFailed = TaskReport.UpstreamFailed
told_task part (TaskReport.Ran instance) = TaskReport.Ran (with_told instance part)
told_task part (TaskReport.Mapped instances) = TaskReport.Mapped (told_instances part instances)

-- the task with a further instance, where it is expanded
abbrev pub further_task : TaskResult → TaskReport → TaskReport
further_task result TaskReport.NoStatus = TaskReport.NoStatus
further_task result TaskReport.Skipped = TaskReport.Skipped
further_task result TaskReport.UpstreamFailed = TaskReport.UpstreamFailed
further_task result (TaskReport.Ran instance) = TaskReport.Ran instance
further_task result (TaskReport.Mapped instances) =
    TaskReport.Mapped (instances ++ untold result ∷ [])
