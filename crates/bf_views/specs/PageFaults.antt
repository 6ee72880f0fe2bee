-- Why the command `page` comes to no answer.
use Rattle.std.specs.Prelude.{◌≡◌, ◌⊎◌, true, ℕ, List, Option, string_bytes}
use Rattle.bf_read.specs.declared.draft.Draft.{Draft}
use Rattle.bf_check.specs.Checking.{dag_of}
use Rattle.bf_report.specs.declared.report.Report.{Report}
use Rattle.bf_report_reader.specs.Reading.{IsReadAs}
use Rattle.bf_journal.specs.declared.fault.JournalFault.{JournalFault}
use Rattle.bf_command_line.specs.declared.forms.PageAsked.{PageAsked}
use Rattle.bf_command_fault.specs.declared.fault.CommandFault.{CommandFault}
use Rattle.bf_command_fault.specs.declared.fault.CommandFault.TheVariants.{CannotRead, CannotWrite, Journal}
use Rattle.bf_disk.specs.Files.{AreReadable, Files, IsFirstUntold, IsHeldIfNamed, named_paths}
use Rattle.bf_planning.specs.Graphs.{IsGraph}
use Rattle.bf_views.specs.Matching.{intervals_in, is_of_graph}
use Rattle.bf_views.specs.Pages.{journal_path}
use Rattle.bf_views.specs.Reported.{AreReportedReadable, IsMatch, IsReportedFault, OfReported}
use Rattle.bf_views.specs.Times.{IsJournalFault}

-- the bytes say a graph without a fault and a report of it, and the journal is none of the graph and the report's runs
pub record IsRefusedJournal (graph : List ℕ) (zone : Option (List ℕ)) (held : List ℕ)
    (journal : Option (List ℕ)) (fault : JournalFault) : Type 0 where
  pub draft : Draft
  pub graph_says : IsGraph graph zone draft
  pub report : Report
  pub report_says : IsReadAs held report
  pub matches : is_of_graph (dag_of draft) report ≡ true
  pub refused : IsJournalFault (dag_of draft) (intervals_in report.runs) journal (Journal fault)

-- the first fault: of the graph's files, the graph, the report's file and the report, and behind these of the journal's file and the
-- journal; or memory or the device is wanting
abbrev pub IsPageFault : Files → PageAsked → CommandFault → Type 0
IsPageFault files asked (CannotRead path) =
    IsReportedFault files asked.graph (string_bytes asked.report) (CannotRead path)
    ⊎ (AreReportedReadable files asked.graph (string_bytes asked.report)
    × OfReported files asked.graph (string_bytes asked.report) IsMatch
    × IsFirstUntold files (named_paths (journal_path asked)) path)
IsPageFault files asked (Journal fault) =
    AreReportedReadable files asked.graph (string_bytes asked.report)
    × AreReadable files (named_paths (journal_path asked))
    × OfReported files asked.graph (string_bytes asked.report)
    (λ graph zone held. (journal : Option (List ℕ)) →
    IsHeldIfNamed files (journal_path asked) journal
    → IsRefusedJournal graph zone held journal fault)
IsPageFault files asked (CannotWrite n) =
    AreReportedReadable files asked.graph (string_bytes asked.report)
    × AreReadable files (named_paths (journal_path asked))
IsPageFault files asked fault = IsReportedFault files asked.graph (string_bytes asked.report) fault
