-- Why the command `explain` comes to no answer.
use Rattle.std.specs.Prelude.{◌≡◌, ℤ, List, ℕ, Option, Some, string_bytes}
use Rattle.jiff.specs.declared.timestamp.Timestamp.{Timestamp}
use Rattle.bf_read.specs.declared.draft.Draft.{Draft}
use Rattle.bf_check.specs.Checking.{dag_of}
use Rattle.bf_report.specs.declared.report.Report.{Report}
use Rattle.bf_report_reader.specs.Reading.{IsReadAs}
use Rattle.bf_command_line.specs.declared.forms.ExplainAsked.{ExplainAsked}
use Rattle.bf_command_line.specs.declared.forms.TaskAsked.{TaskAsked}
use Rattle.bf_command_fault.specs.declared.fault.CommandFault.{CommandFault}
use Rattle.bf_command_fault.specs.declared.fault.CommandFault.TheVariants.{BadMoment, Clear, UnknownIndex}
use Rattle.bf_disk.specs.Files.{Files}
use Rattle.bf_input.specs.Moments.{IsNoMoment, Means}
use Rattle.bf_planning.specs.Graphs.{IsGraph}
use Rattle.bf_views.specs.Asked.{asked_fault}
use Rattle.bf_views.specs.Reported.{AreReportedReadable, IsReportedFault, OfReported}

-- the bytes say a graph without a fault and a report, and this is the first fault of what is asked of them
pub record IsFirstFaultOfAsked (fault : CommandFault) (start : ℤ) (task : Option TaskAsked)
    (graph : List ℕ) (zone : Option (List ℕ)) (held : List ℕ) : Type 0 where
  pub draft : Draft
  pub graph_says : IsGraph graph zone draft
  pub report : Report
  pub report_says : IsReadAs held report
  pub refused : asked_fault (dag_of draft) report start task ≡ Some fault

abbrev pub IsRefusal : Files → ExplainAsked → ℤ → CommandFault → Type 0
IsRefusal files asked start fault =
    AreReportedReadable files asked.graph (string_bytes asked.report)
    × OfReported files asked.graph (string_bytes asked.report)
    (IsFirstFaultOfAsked fault start asked.task)

-- the first fault: of the files and of what they hold, or of what is asked of it
abbrev pub IsExplainFaultAt : Files → ExplainAsked → ℤ → CommandFault → Type 0
IsExplainFaultAt files asked start (Clear fault) = IsRefusal files asked start (Clear fault)
IsExplainFaultAt files asked start UnknownIndex = IsRefusal files asked start UnknownIndex
IsExplainFaultAt files asked start fault =
    IsReportedFault files asked.graph (string_bytes asked.report) fault

-- the moment comes first: the text is none; or it means one, and the fault is the first of the rest
abbrev pub IsExplainFault : Files → ExplainAsked → CommandFault → Type 0
IsExplainFault files asked BadMoment = IsNoMoment (string_bytes asked.run)
IsExplainFault files asked fault =
    (start : Timestamp) × Means (string_bytes asked.run) start
    × IsExplainFaultAt files asked start.nanosecond fault
