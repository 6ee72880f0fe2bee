-- The rules of a report.
use Rattle.std.specs.Prelude.{◌≡◌, ◌≤◌, ◌<◌, Bool, true, false, List, [], length, Option, Some, None, is_some}
use Rattle.std.specs.List.{AllByRecursion}
use Rattle.bf_plan.specs.Ids.{is_id_in}
use Rattle.bf_value.specs.Distinct.{AreDistinct}
use Rattle.bf_report.specs.declared.report.Version.{Version}
use Rattle.bf_report.specs.declared.report.InstanceReport.{InstanceReport}
use Rattle.bf_report_reader.specs.Open.{OpenTask}
use Rattle.bf_report_reader.specs.declared.open.OpenRun.{OpenRun}
use Rattle.bf_report_reader.specs.declared.beginning.ReportSoFar.{ReportSoFar}
use Rattle.bf_report_reader.specs.Entries.{IsShownResult}
use Rattle.bf_report_reader.specs.Runs.{IsRunInterval}
use Rattle.bf_report_reader.specs.Beginning.{tells_item, has_item}
use Rattle.bf_report_reader.specs.inner.Beginning.{IsCounted, IsSmall, runs_of, run_count_of}
use Rattle.bf_report_reader.specs.Rules.{MayHaveItem, AreToldPulls, IsShownInstance, IsShownTask, IsShownRun, Rise}

-- ---- as far as it was read

-- the instances before the one that was read last
abbrev pub AreShownBefore : Version → Option (List InstanceReport) → Type 0
AreShownBefore version None = Unit {0}
AreShownBefore version (Some instances) =
    (length instances < 1_024) × AllByRecursion (IsShownInstance version true) instances

-- the instance that was read last, which has no pulls before its item
pub record IsOpenInstance (version : Version) (expanded : Bool)
    (instance : InstanceReport) : Type 0 where
  pub result : IsShownResult instance.result
  pub item : MayHaveItem (tells_item version expanded) instance.item
  pub pulls : AreToldPulls version instance.pulls
  pub in_order : has_item (tells_item version expanded) instance.item ≡ false → instance.pulls ≡ []

abbrev pub IsOpenTask : Version → Option OpenTask → Type 0
IsOpenTask version None = Unit {0}
IsOpenTask version (Some task) =
    AreShownBefore version task.before × IsOpenInstance version (is_some task.before) task.instance

-- the run whose tasks are read
abbrev pub IsOpenRun : Version → Option OpenRun → Type 0
IsOpenRun version None = Unit {0}
IsOpenRun version (Some open_run) =
    IsRunInterval open_run.run.interval × AllByRecursion (IsShownTask version) open_run.run.tasks
    × IsOpenTask version open_run.task

pub record IsRuled (beginning : ReportSoFar) : Type 0 where
  pub dag_id : is_id_in beginning.dag_id ≡ true
  pub ids : AllByRecursion (λ id. is_id_in id ≡ true) beginning.tasks
  pub distinct : AreDistinct beginning.tasks
  pub runs : AllByRecursion (IsShownRun beginning.version (length beginning.tasks)) beginning.runs
  pub last : IsOpenRun beginning.version beginning.run
  pub few_runs : run_count_of beginning ≤ 4_096
  pub rise : Rise (runs_of beginning)

-- what holds of a report behind each of its lines
pub record KeepsRules (beginning : ReportSoFar) : Type 0 where
  pub counted : IsCounted beginning
  pub small : IsSmall beginning
  pub ruled : IsRuled beginning
