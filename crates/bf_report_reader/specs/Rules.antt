-- The rules of a report.
use Rattle.std.specs.Prelude.{◌≡◌, ◌≤◌, ◌<ℤ◌, ℕ, Bool, true, false, List, [], ◌∷◌, length, map, Option, Some, None}
use Rattle.std.specs.List.{AllByRecursion}
use Rattle.bf_plan.specs.Ids.{is_id_in}
use Rattle.bf_value.specs.Distinct.{AreDistinct}
use Rattle.bf_value.specs.declared.xval.Xval.{Xval}
use Rattle.bf_report.specs.declared.report.Version.{Version}
use Rattle.bf_report.specs.declared.report.Pull.{Pull}
use Rattle.bf_report.specs.declared.report.InstanceReport.{InstanceReport}
use Rattle.bf_report.specs.declared.report.TaskReport.{TaskReport}
use Rattle.bf_report.specs.declared.report.RunReport.{RunReport}
use Rattle.bf_report.specs.declared.report.Report.{Report}
use Rattle.bf_report_reader.specs.Entries.{IsShownResult}
use Rattle.bf_report_reader.specs.Parts.{IsToldItem, IsToldPull}
use Rattle.bf_report_reader.specs.Runs.{IsRunInterval}
use Rattle.bf_report_reader.specs.Beginning.{tells_item, most_told, has_item}

-- an item that is there is told, and it can be read back
abbrev pub MayHaveItem : Bool → Option Xval → Type 0
MayHaveItem told None = Unit {0}
MayHaveItem told (Some item) = (told ≡ true) × IsToldItem item

-- in version 2 an instance has at most 16 pulls, from distinct tasks, and in version 1 none
pub record AreToldPulls (version : Version) (pulls : List Pull) : Type 0 where
  pub few : length pulls ≤ most_told version
  pub distinct : AreDistinct (map (λ pull. pull.task) pulls)
  pub each : AllByRecursion IsToldPull pulls

-- in version 2 an instance has an item exactly where its task is expanded, and in version 1 none
pub record IsShownInstance (version : Version) (expanded : Bool)
    (instance : InstanceReport) : Type 0 where
  pub result : IsShownResult instance.result
  pub item : MayHaveItem (tells_item version expanded) instance.item
  pub complete : has_item (tells_item version expanded) instance.item ≡ true
  pub pulls : AreToldPulls version instance.pulls

-- an expanded task has 1 to 1,024 instances
abbrev pub IsShownTask : Version → TaskReport → Type 0
IsShownTask version TaskReport.NoStatus = Unit {0}
IsShownTask version TaskReport.Skipped = Unit {0}
IsShownTask version TaskReport.UpstreamFailed = Unit {0}
IsShownTask version (TaskReport.Ran instance) = IsShownInstance version false instance
IsShownTask version (TaskReport.Mapped instances) =
    (1 ≤ length instances) × (length instances ≤ 1_024)
    × AllByRecursion (IsShownInstance version true) instances

-- a run of so many tasks
pub record IsShownRun (version : Version) (tasks : ℕ) (run : RunReport) : Type 0 where
  pub interval : IsRunInterval run.interval
  pub each : AllByRecursion (IsShownTask version) run.tasks
  pub all : length run.tasks ≡ tasks

-- each run starts after the one before
abbrev pub Rise : List RunReport → Type 0
Rise [] = Unit {0}
Rise (first ∷ []) = Unit {0}
Rise (first ∷ second ∷ rest) =
    (first.interval.start.nanosecond <ℤ second.interval.start.nanosecond) × Rise (second ∷ rest)

-- a report that can be read back; its text has no ids where it has no run
pub record IsShownReport (report : Report) : Type 0 where
  pub dag_id : is_id_in report.dag_id ≡ true
  pub ids : AllByRecursion (λ id. is_id_in id ≡ true) report.tasks
  pub distinct : AreDistinct report.tasks
  pub few_tasks : length report.tasks ≤ 2_000
  pub runs : AllByRecursion (IsShownRun report.version (length report.tasks)) report.runs
  pub few_runs : length report.runs ≤ 4_096
  pub rise : Rise report.runs
  pub known : report.runs ≡ [] → report.tasks ≡ []
