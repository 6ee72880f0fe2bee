-- What is asked for leaves one report.
use Rattle.std.proofs.Common.{◌≡◌, ℕ, Bool, List, Option, Ok, map, length, sym, ap, ◌∙◌, subst}
use Rattle.std.specs.FinMap as finite
use Rattle.std.specs.List.{list_all}
use Rattle.jiff.specs.declared.timestamp.Timestamp.{Timestamp}
use Rattle.bf_value.specs.Names.{name_cmp}
use Rattle.bf_plan.specs.declared.plan.Dag.{Dag}
use Rattle.bf_plan.specs.Sound.{IsSound}
use Rattle.bf_read.specs.Reading.{GraphFile, graph_file_of}
use Rattle.bf_read.specs.declared.draft.Draft.{Draft}
use Rattle.bf_check.specs.Checking.{dag_of, ids_of, task_in}
use Rattle.bf_interval.specs.Runs.{intervals_at}
use Rattle.bf_interval.specs.declared.interval.Interval.{Interval}
use Rattle.bf_table.specs.declared.table.TableEntry.{TableEntry}
use Rattle.bf_table.specs.Tables.{table_in}
use Rattle.bf_try.specs.declared.ledger.Entry.{Entry}
use Rattle.bf_try.specs.Grades.{grade_of}
use Rattle.bf_try.specs.Tries.{Ledger, AreAlike}
use Rattle.bf_core.specs.Agreement.{HoldsItsTries}
use Rattle.bf_core.specs.Answered.{AreGraded}
use Rattle.bf_core.proofs.Confluence.{tries_same}
use Rattle.bf_report.specs.declared.report.Report.{Report}
use Rattle.bf_report.specs.Report.{report_text}
use Rattle.bf_report.proofs.DatedFacts.{dated_once}
use Rattle.bf_planning.specs.declared.range.RunRange.{RunRange}
use Rattle.bf_commands.specs.DatedRuns.{IsDryReport}
use Rattle.bf_planning.specs.Graphs.{IsGraph}
use Rattle.bf_commands.specs.OneRun.{IsSingleReport}
use Rattle.bf_commands.specs.OverTable.{AnswersByTable, TableReport}
use Rattle.bf_commands.specs.Reported.{IsReportOf, is_success_in}
use Rattle.bf_commands.proofs.OneList.{one_list}

-- alike ledgers of one plan and of the same intervals have one report
alike_reports : (dag : Dag) → IsSound dag → (intervals : List Interval) (one two : finite.FinMap name_cmp Entry) → HoldsItsTries dag (length intervals) (finite.get one) → HoldsItsTries dag (length intervals) (finite.get two)
    → AreAlike (finite.get one) (finite.get two) → (text others : List ℕ) (success other : Bool) → IsReportOf dag intervals (finite.get one) text success → IsReportOf dag intervals (finite.get two) others other
    → (text ≡ others) × (success ≡ other)
alike_reports dag sound intervals one two first second alike text others success other reported again =
    let same_ledger : one ≡ two = tries_same dag sound (length intervals) one two first second alike in
    let moved : IsReportOf dag intervals (finite.get two) text success = subst (λ l. IsReportOf dag intervals (finite.get l) text success) same_ledger reported in
    let same : moved.report ≡ again.report = dated_once dag intervals (finite.get two) moved.report again.report moved.dated again.dated in (
      moved.text_is ∙ ap report_text same ∙ sym again.text_is,
      moved.state ∙ ap (λ (r : Report). list_all (λ run. is_success_in run.state) r.runs) same ∙ sym again.state,
    )

-- ledgers whose entries have the answers of one table are alike
answered_alike : (dag : Dag) (table : List TableEntry) (intervals : List Interval) (one two : Ledger) → AreGraded (AnswersByTable dag table intervals) dag one → AreGraded (AnswersByTable dag table intervals) dag two → AreAlike one two
answered_alike dag table intervals one two first second n d e at there given =
    let a = first n d at in
    let b = second n e there in
    a.2 ∙ ap (grade_of dag n.task) (a.1 ∙ sym b.1) ∙ sym b.2

pub one_report : (dag : Dag) → IsSound dag → (table : List TableEntry) (intervals : List Interval) (text others : List ℕ) (success other : Bool)
    → TableReport dag table intervals text success → TableReport dag table intervals others other → (text ≡ others) × (success ≡ other)
one_report dag sound table intervals text others success other a b =
    alike_reports dag sound intervals a.ledger b.ledger a.tries b.tries (answered_alike dag table intervals (finite.get a.ledger) (finite.get b.ledger) a.graded b.graded) text others success other a.reported b.reported

-- ---- over bytes

-- the bytes of a graph file say the tasks of one plan
one_dag : (graph : List ℕ) (file : Option (List ℕ)) (one two : Draft) → IsGraph graph file one → IsGraph graph file two → dag_of one ≡ dag_of two
one_dag graph file one two a b =
    let said : Ok (graph_file_of one) ≡ Ok (graph_file_of two) = sym a.says ∙ b.says in
    let one_file : graph_file_of one ≡ graph_file_of two = cc in
    ap (λ (f : GraphFile). record { id = f.dag_id; tasks = map (task_in (ids_of f.tasks)) f.tasks }) one_file

-- the bytes of a table say its entries
one_table : (table : List ℕ) (one two : List TableEntry) → table_in table ≡ Ok one → table_in table ≡ Ok two → one ≡ two
one_table table one two a b = let said : Ok one ≡ Ok two = sym a ∙ b in cc

pub one_dry_report : (graph : List ℕ) (file : Option (List ℕ)) (table : List ℕ) (range : RunRange) (text others : List ℕ) (success other : Bool)
    → IsDryReport graph file table range text success → IsDryReport graph file table range others other → (text ≡ others) × (success ≡ other)
one_dry_report graph file table range text others success other a b =
    let dags = one_dag graph file b.draft a.draft b.graph_is a.graph_is in
    let entries = one_table table b.entries a.entries b.table_says a.table_says in
    let found = one_list graph file range b.found a.found b.listing a.listing in
    one_report (dag_of a.draft) a.graph_is.sound a.entries a.found text others success other a.reported
    (subst (λ (p : Dag × List TableEntry × List Interval). TableReport p.0 p.1 p.2 others other) (λ i. (dags i, entries i, found i)) b.reported)

pub one_single_report : (graph : List ℕ) (file : Option (List ℕ)) (table : List ℕ) (at : Timestamp) (text others : List ℕ) (success other : Bool)
    → IsSingleReport graph file table at text success → IsSingleReport graph file table at others other → (text ≡ others) × (success ≡ other)
one_single_report graph file table at text others success other a b =
    let dags = one_dag graph file b.draft a.draft b.graph_is a.graph_is in
    let entries = one_table table b.entries a.entries b.table_says a.table_says in
    one_report (dag_of a.draft) a.graph_is.sound a.entries (intervals_at at) text others success other a.reported
    (subst (λ (p : Dag × List TableEntry). TableReport p.0 p.1 (intervals_at at) others other) (λ i. (dags i, entries i)) b.reported)
