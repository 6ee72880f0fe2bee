-- Over the table that is made of a report the report comes out again.
use Rattle.std.proofs.Common.{◌≡◌, ℕ, ◌≤◌, ◌&&◌, Bool, true, false, if◌then◌else◌, List, [], length, map, nat_le, Option, None, Ok, option_and_then, refl, sym, ap, ◌∙◌, subst, append-nil}
use Rattle.std.specs.FinMap as finite
use Rattle.std.specs.List.{list_all}
use Rattle.std.specs.Str.{is_utf8}
use Rattle.std.proofs.lemmas.Bool.{leb-true}
use Rattle.serde_json.specs.Find.{as_array}
use Rattle.serde_json.specs.Read.{read}
use Rattle.bf_value.specs.Names.{name_cmp}
use Rattle.bf_value.specs.declared.name.JobName.{JobName}
use Rattle.bf_plan.specs.declared.plan.Dag.{Dag}
use Rattle.bf_plan.specs.Sound.{IsSound}
use Rattle.bf_read.specs.Reading.{GraphFile, graph_file_of}
use Rattle.bf_read.specs.declared.draft.Draft.{Draft}
use Rattle.bf_check.specs.Checking.{dag_of, ids_of, task_in}
use Rattle.bf_interval.specs.declared.interval.Interval.{Interval}
use Rattle.bf_xcom.specs.declared.values.Given.{Given}
use Rattle.bf_xcom.specs.declared.values.Outcome.{Outcome}
use Rattle.bf_try.specs.declared.answers.Raw.{Raw}
use Rattle.bf_try.specs.declared.ledger.Entry.{Entry}
use Rattle.bf_try.specs.Grades.{fits_in}
use Rattle.bf_try.proofs.GradeLemmas.{grade_fits}
use Rattle.bf_table.specs.declared.table.TableEntry.{TableEntry}
use Rattle.bf_table.specs.Tables.{json_of_file, longest_table, table_in, table_with}
use Rattle.bf_core.specs.Agreement.{HoldsItsTries}
use Rattle.bf_core.specs.Answered.{AreGraded}
use Rattle.bf_report.specs.declared.report.Report.{Report}
use Rattle.bf_report.specs.Dated.{IsDated}
use Rattle.bf_report.specs.Report.{report_text}
use Rattle.bf_report_reader.specs.Reading.{IsReadAs}
use Rattle.bf_report_reader.specs.Rules.{IsShownReport}
use Rattle.bf_report_reader.proofs.Reports.{one_text_each}
use Rattle.bf_kept.specs.Kept.{AreFit}
use Rattle.bf_answers.specs.Answers.{answers_in}
use Rattle.bf_answers.specs.Over.{MayAnswer}
use Rattle.bf_answers.specs.TableText.{answers_text}
use Rattle.bf_planning.specs.Graphs.{IsGraph}
use Rattle.bf_planning.specs.Lists.{HasListing}
use Rattle.bf_planning.specs.declared.range.RunRange.{RunRange}
use Rattle.bf_commands.specs.DatedRuns.{IsDryReport}
use Rattle.bf_commands.specs.OverTable.{TableReport}
use Rattle.bf_commands.specs.Reported.{IsReportBy, is_success_in}
use Rattle.bf_commands.proofs.OneList.{one_list}
use Rattle.bf_views.specs.Tables.{IsTableOf}

-- the bytes of a graph file say the tasks of one plan
pub same_dag : (graph : List ℕ) (file : Option (List ℕ)) (one two : Draft) → IsGraph graph file one → IsGraph graph file two → dag_of one ≡ dag_of two
same_dag graph file one two a b =
    let said : Ok (graph_file_of one) ≡ Ok (graph_file_of two) = sym a.says ∙ b.says in
    let one_file : graph_file_of one ≡ graph_file_of two = cc in
    ap (λ (f : GraphFile). record { id = f.dag_id; tasks = map (task_in (ids_of f.tasks)) f.tasks }) one_file

-- the bytes of a report say no other
pub same_report : (held : List ℕ) (one report : Report) → IsReadAs held one → IsShownReport report → held ≡ report_text report → one ≡ report
same_report held one report says kept is = one_text_each one report [] says.shown kept (sym is ∙ says.text_is ∙ sym (append-nil (report_text one)))

-- what is read as a table isn't too long for one
short_table : (bytes : List ℕ) (entries : List TableEntry) → table_in bytes ≡ Ok entries → length bytes ≤ longest_table
unfolding table_in json_of_file
short_table bytes entries e = by (nat_le (length bytes) longest_table) refl e
  where
    by : (b : Bool) → nat_le (length bytes) longest_table ≡ b → table_with (option_and_then as_array (if b && is_utf8 bytes then read bytes else None)) ≡ Ok entries → length bytes ≤ longest_table
    by true low h = leb-true (length bytes) longest_table low
    by false low h = cc

abbrev ReadBack : Type 0
ReadBack = (report : Report) → IsShownReport report → length (answers_text report) ≤ longest_table → table_in (answers_text report) ≡ Ok (answers_in report)

abbrev MadeAgain : Type 0
MadeAgain =
    (dag : Dag) → IsSound dag → (intervals : List Interval) (was again : finite.FinMap name_cmp Entry) → HoldsItsTries dag (length intervals) (finite.get was) → AreFit dag (finite.get was)
    → HoldsItsTries dag (length intervals) (finite.get again) → (report : Report) → IsDated dag intervals (finite.get was) report → IsShownReport report
    → AreGraded (MayAnswer dag intervals report) dag (finite.get again) → (other : Report) → IsDated dag intervals (finite.get again) other → other ≡ report

module _ (back : ReadBack) (again : MadeAgain) (may_answer : JobName → Given → Raw → Type 0) (graph : List ℕ) (file : Option (List ℕ)) (range : RunRange) (draft : Draft) (found : List Interval)
    (graph_is : IsGraph graph file draft) (listing : HasListing graph file range (Ok found)) (held table text : List ℕ) (success other : Bool) (was : IsReportBy may_answer (dag_of draft) found held success)
    (told : IsTableOf held table) (made : IsDryReport graph file table range text other) where
  abbrev report : Report
  report = was.reported.report

  table_is : table ≡ answers_text report
  table_is = told.2 ∙ ap answers_text (same_report held told.0 report told.1 was.reported.kept was.reported.text_is)

  entries_are : made.entries ≡ answers_in report
  entries_are =
      let short : length (answers_text report) ≤ longest_table = subst (λ (t : List ℕ). length t ≤ longest_table) table_is (short_table table made.entries made.table_says) in
      let said : Ok made.entries ≡ Ok (answers_in report) = sym made.table_says ∙ ap table_in table_is ∙ back report was.reported.kept short in
      cc

  moved : TableReport (dag_of draft) (answers_in report) found text other
  moved =
      let dags = same_dag graph file made.draft draft made.graph_is graph_is in
      let intervals = one_list graph file range made.found found made.listing listing in
      subst (λ (p : Dag × List TableEntry × List Interval). TableReport p.0 p.1 p.2 text other) (λ i. (dags i, entries_are i, intervals i)) made.reported

  fit : AreFit (dag_of draft) (finite.get was.ledger)
  fit n e at = let graded = was.graded n e at in subst (λ (o : Outcome). fits_in (dag_of draft) n.task o ≡ true) (sym graded.2) (grade_fits (dag_of draft) n.task graded.0)

  pub printed_again : (text ≡ held) × (other ≡ success)
  printed_again =
      let same : moved.reported.report ≡ report =
      again (dag_of draft) graph_is.sound found was.ledger moved.ledger was.tries fit moved.tries report was.reported.dated was.reported.kept moved.graded moved.reported.report moved.reported.dated in (
        moved.reported.text_is ∙ ap report_text same ∙ sym was.reported.text_is,
        moved.reported.state ∙ ap (λ (r : Report). list_all (λ run. is_success_in run.state) r.runs) same ∙ sym was.reported.state,
      )
