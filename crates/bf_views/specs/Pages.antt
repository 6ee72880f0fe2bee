-- What the command `page` comes to, by what the files hold that it names.
use Rattle.std.specs.Prelude.{◌≡◌, ℕ, ◌||◌, nat_lt, Bool, true, if◌then◌else◌, List, [], length, Option, option_map, string_bytes, unwrap_or}
use Rattle.bf_read.specs.declared.draft.Draft.{Draft}
use Rattle.bf_check.specs.Checking.{dag_of}
use Rattle.bf_plan.specs.declared.plan.Dag.{Dag}
use Rattle.bf_report.specs.declared.report.Report.{Report}
use Rattle.bf_report.specs.Report.{report_text}
use Rattle.bf_report_reader.specs.Reading.{IsReadAs}
use Rattle.bf_command_line.specs.declared.forms.PageAsked.{PageAsked}
use Rattle.bf_command_fault.specs.declared.status.Status.{Status}
use Rattle.bf_disk.specs.Files.{AreReadable, Files, IsHeldIfNamed, named_paths}
use Rattle.bf_planning.specs.Graphs.{IsGraph}
use Rattle.bf_page.specs.declared.page.PageTexts.{PageTexts}
use Rattle.bf_page.specs.Page.{page_text}
use Rattle.bf_cells.specs.Cells.{cells_text}
use Rattle.bf_views.specs.Matching.{intervals_in, is_of_graph}
use Rattle.bf_views.specs.Reported.{AreReportedReadable, OfReported}
use Rattle.bf_views.specs.Times.{AreTimesTold}

-- the report on the page: none where only the states are asked for, or where it has more than 134,217,728 bytes
abbrev pub report_shown : Bool → List ℕ → List ℕ
report_shown states_only held = if states_only || nat_lt 134_217_728 (length held) then [] else held

-- what a line asks for: the paths as they stand there, of which the zone file's is empty where there is none, and whether only the
-- states are shown
pub record PageWords : Type 0 where
  pub graph_path : List ℕ
  pub report_path : List ℕ
  pub zone_path : List ℕ
  pub states_only : Bool

abbrev pub words_asked : PageAsked → PageWords
words_asked asked = record {
  graph_path = string_bytes asked.graph.graph;
  report_path = string_bytes asked.report;
  zone_path = unwrap_or (option_map string_bytes asked.graph.zone_file) [];
  states_only = asked.states_only;
}

-- the seven texts of a page: the paths, the cells, the graph file, the report, and the times
pub record AreTextsOf (words : PageWords) (graph : List ℕ) (dag : Dag) (report : Report)
    (times : List ℕ) (texts : PageTexts) : Type 0 where
  pub graph_path_is : texts.graph_path.now ≡ words.graph_path
  pub report_path_is : texts.report_path.now ≡ words.report_path
  pub zone_path_is : texts.zone_path.now ≡ words.zone_path
  pub cells_are : texts.cells.now ≡ cells_text dag report (length (report_text report))
  pub graph_is : texts.graph.now ≡ graph
  pub report_is : texts.report.now ≡ report_shown words.states_only (report_text report)
  pub times_are : texts.times.now ≡ times

-- the page of a plan's graph and of a report, with these times
abbrev pub IsPage : PageWords → List ℕ → Dag → Report → List ℕ → List ℕ → Type 0
IsPage words graph dag report times text =
    (texts : PageTexts) × AreTextsOf words graph dag report times texts × (text ≡ page_text texts)

-- the page of a graph without a fault and of a report of it, which these bytes say, with the times of a journal where there is one
pub record IsPageOf (words : PageWords) (graph : List ℕ) (zone : Option (List ℕ)) (held : List ℕ)
    (journal : Option (List ℕ)) (text : List ℕ) : Type 0 where
  pub draft : Draft
  pub graph_says : IsGraph graph zone draft
  pub report : Report
  pub report_says : IsReadAs held report
  pub matches : is_of_graph (dag_of draft) report ≡ true
  pub times : List ℕ
  pub times_told : AreTimesTold (dag_of draft) (intervals_in report.runs) journal times
  pub page : IsPage words graph (dag_of draft) report times text

-- the path of the journal, where one is named
abbrev pub journal_path : PageAsked → Option (List ℕ)
journal_path asked = option_map string_bytes asked.journal

pub record IsPageAnswer (files : Files) (asked : PageAsked) (text : List ℕ)
    (status : Status) : Type 0 where
  pub success : status ≡ Status.Success
  pub readable : AreReportedReadable files asked.graph (string_bytes asked.report)
  pub journal_readable : AreReadable files (named_paths (journal_path asked))
  pub text_is : OfReported files asked.graph (string_bytes asked.report)
      (λ graph zone held. (journal : Option (List ℕ)) →
      IsHeldIfNamed files (journal_path asked) journal
      → IsPageOf (words_asked asked) graph zone held journal text)
