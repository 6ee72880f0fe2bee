-- What stands on the page of a report that a backfill of the graph printed.
use Rattle.std.proofs.Common.{◌≡◌, ℕ, Bool, false, List, Option, Some, slice_get, sym, ap, ◌∙◌}
use Rattle.std.specs.Char.{is_ascii_digit}
use Rattle.std.specs.List.{list_any}
use Rattle.bf_plan.specs.declared.plan.Dag.{Dag}
use Rattle.bf_plan.specs.Sound.{IsSound}
use Rattle.bf_read.specs.declared.draft.Draft.{Draft}
use Rattle.bf_check.specs.Checking.{dag_of}
use Rattle.bf_interval.specs.declared.interval.Interval.{Interval}
use Rattle.bf_try.specs.Tries.{Ledger}
use Rattle.bf_report.specs.declared.report.RunReport.{RunReport}
use Rattle.bf_report.specs.declared.report.Report.{Report}
use Rattle.bf_report.specs.Dated.{IsDated}
use Rattle.bf_planning.specs.Graphs.{IsGraph}
use Rattle.bf_cells.specs.Cells.{letters_from}
use Rattle.bf_commands.specs.Reported.{IsReportOf}
use Rattle.bf_views.specs.Pages.{IsPageOf, PageWords}
use Rattle.bf_program.proofs.Printing.{same_dag, same_report}

abbrev HaveNoDigit : Type 0
HaveNoDigit =
    (dag : Dag) → IsSound dag → (intervals : List Interval) (ledger : Ledger) (report : Report) → IsDated dag intervals ledger report
    → (number : ℕ) (run : RunReport) → slice_get report.runs number ≡ Some run → list_any is_ascii_digit (letters_from dag report number 0 run.tasks) ≡ false

pub no_digit_shown : HaveNoDigit → (graph : List ℕ) (zone : Option (List ℕ)) (draft : Draft) → IsGraph graph zone draft → (found : List Interval) (ledger : Ledger) (held : List ℕ) (success : Bool)
    → IsReportOf (dag_of draft) found ledger held success → (words : PageWords) (journal : Option (List ℕ)) (text : List ℕ) → (page : IsPageOf words graph zone held journal text)
    → (number : ℕ) (run : RunReport) → slice_get page.report.runs number ≡ Some run → list_any is_ascii_digit (letters_from (dag_of page.draft) page.report number 0 run.tasks) ≡ false
no_digit_shown none graph zone draft says found ledger held success of words journal text page number run is =
    let dags = same_dag graph zone page.draft draft page.graph_says says in
    let same = same_report held page.report of.report page.report_says of.kept of.text_is in
    (λ i. list_any is_ascii_digit (letters_from (dags i) (same i) number 0 run.tasks))
    ∙ none (dag_of draft) says.sound found ledger of.report of.dated number run (ap (λ (r : Report). slice_get r.runs number) (sym same) ∙ is)
