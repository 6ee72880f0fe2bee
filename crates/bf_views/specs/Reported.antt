-- What a line's graph file and report hold, and why they can't be shown.
use Rattle.std.specs.Prelude.{◌≡◌, ◌⊎◌, ℕ, false, true, List, Option}
use Rattle.bf_read.specs.declared.draft.Draft.{Draft}
use Rattle.bf_check.specs.Checking.{dag_of}
use Rattle.bf_report.specs.declared.report.Report.{Report}
use Rattle.bf_report_reader.specs.Reading.{IsReadAs}
use Rattle.bf_dependents.specs.declared.fault.ClearFault.{ClearFault}
use Rattle.bf_command_line.specs.declared.forms.GraphAsked.{GraphAsked}
use Rattle.bf_command_fault.specs.declared.fault.CommandFault.{CommandFault}
use Rattle.bf_command_fault.specs.declared.fault.CommandFault.TheVariants.{CannotRead, CannotWrite, Check, Clear, OutOfMemory, Read, Report as BadReport}
use Rattle.bf_disk.specs.Files.{AreReadable, Files, IsFirstUntold, IsHeld, IsReadable, IsUntold}
use Rattle.bf_input.specs.Inputs.{IsReportFault, OfFiles, graph_paths}
use Rattle.bf_planning.specs.Graphs.{IsGraph}
use Rattle.bf_views.specs.Matching.{is_of_graph}
use Rattle.bf_views.specs.Planned.{HasGraph, IsPlanningFault}

-- P holds of whatever the graph file, the zone file, and the report of this path are told to hold
abbrev pub OfReported : Files → GraphAsked → List ℕ → (List ℕ → Option (List ℕ) → List ℕ → Type 0)
    → Type 0
OfReported files asked path P =
    OfFiles files asked (λ graph zone. (held : List ℕ) → IsHeld (files path) held
    → P graph zone held)

-- the files can be read
abbrev pub AreReportedReadable : Files → GraphAsked → List ℕ → Type 0
AreReportedReadable files asked path =
    AreReadable files (graph_paths asked) × IsReadable (files path)

-- the bytes say a graph without a fault and a report of it
pub record IsMatch (graph : List ℕ) (zone : Option (List ℕ)) (held : List ℕ) : Type 0 where
  pub draft : Draft
  pub graph_says : IsGraph graph zone draft
  pub report : Report
  pub report_says : IsReadAs held report
  pub matches : is_of_graph (dag_of draft) report ≡ true

-- the bytes say a graph without a fault and a report, which isn't one of that graph
pub record IsMismatch (graph : List ℕ) (zone : Option (List ℕ)) (held : List ℕ) : Type 0 where
  pub draft : Draft
  pub graph_says : IsGraph graph zone draft
  pub report : Report
  pub report_says : IsReadAs held report
  pub differs : is_of_graph (dag_of draft) report ≡ false

-- the first fault: of the graph's files and the graph, of the report's file and the report, or that it isn't one of the graph; or
-- memory or the device is wanting
abbrev pub IsReportedFault : Files → GraphAsked → List ℕ → CommandFault → Type 0
IsReportedFault files asked report OutOfMemory = Unit {0}
IsReportedFault files asked report (CannotWrite n) = AreReportedReadable files asked report
IsReportedFault files asked report (CannotRead path) = IsFirstUntold files (graph_paths asked) path
    ⊎ (HasGraph files asked × (path ≡ report) × IsUntold (files report))
IsReportedFault files asked report (Read fault) = IsPlanningFault files asked (Read fault)
IsReportedFault files asked report (Check fault) = IsPlanningFault files asked (Check fault)
IsReportedFault files asked report (BadReport fault) =
    HasGraph files asked × IsReportFault report (files report) (BadReport fault)
IsReportedFault files asked report (Clear ClearFault.ReportMismatch) =
    AreReportedReadable files asked report × OfReported files asked report IsMismatch
IsReportedFault files asked report _ = ⊥
