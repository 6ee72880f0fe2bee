use Rattle.std.proofs.Common.{List, ℕ, Option, sym, ap, ◌∙◌, subst, string_bytes}
use Rattle.bf_plan.specs.declared.plan.Dag.{Dag}
use Rattle.bf_command_fault.specs.declared.status.Status.{Status}
use Rattle.bf_command_fault.proofs.Leaving.{leaves_due}
use Rattle.bf_disk.specs.Files.{AreReadable, IsHeldIfNamed, named_paths}
use Rattle.bf_views.specs.Matching.{intervals_in, is_of_graph}
use Rattle.bf_views.specs.Pages.{IsPage, PageWords}
use Rattle.bf_views.specs.Times.{AreTimesTold}
use Rattle.bf_views.specs.inner.Refused.{IsRefusedBy}
use Rattle.bf_views.specs.inner.Times.{IsNamedJournalFault}
use Rattle.bf_views.proofs.PageEnds.{err_is, journal_page, page_answer, refusal_page, writing_page}
use Rattle.bf_views.proofs.ReportedEnds.{unwritten_leaves}
use Rattle.bf_views.proofs.page.write_page_if_matching.Goals as goal

pub returns-in_err-refuse_other_graph-clause-fault : goal.returns-in_err-refuse_other_graph-clause-fault
returns-in_err-refuse_other_graph-clause-fault g c asked is =
    let report = c.args.report.now in
    err_is _ _ _ c.from_residual.ensures.1
    (refusal_page (g.S.Source.file c.args.files.now) asked c.args.planned.now report is.plan is.readable is.read c.in_err-refuse_other_graph.field-0.0
    (subst (λ (d : Dag). IsRefusedBy (is_of_graph d report) c.in_err-refuse_other_graph.field-0.0) c.dag.ensures.dag c.in_err-refuse_other_graph.ensures.err))

pub returns-in_err-refuse_other_graph-clause-left : goal.returns-in_err-refuse_other_graph-clause-left
returns-in_err-refuse_other_graph-clause-left g c asked is =
    let report = c.args.report.now in
    err_is _ _ _ c.from_residual.ensures.1
    (unwritten_leaves _ _ _ (IsRefusedBy (is_of_graph c.args.planned.now.timed.plan.dag report)) (λ n is. is) c.in_err-refuse_other_graph.field-0.0
    (subst (λ (d : Dag). IsRefusedBy (is_of_graph d report) c.in_err-refuse_other_graph.field-0.0) c.dag.ensures.dag c.in_err-refuse_other_graph.ensures.err))

pub returns-in_err-times-clause-fault : goal.returns-in_err-times-clause-fault
returns-in_err-times-clause-fault g c asked is =
    let files = g.S.Source.file c.args.files.now in
    let planned = c.args.planned.now in
    let report = c.args.report.now in
    let matches = ap (λ (d : Dag). is_of_graph d report) (sym c.dag.ensures.dag) ∙ c.in_ok-refuse_other_graph.ensures.ok in
    err_is _ _ _ c.from_residual-in_err-times.ensures.1
    (journal_page files asked planned report is.plan is.readable is.read matches c.in_err-times.field-0.0
    (subst (λ (j : Option (List ℕ)). IsNamedJournalFault files j planned.timed.plan.dag (intervals_in report.runs) c.in_err-times.field-0.0) is.journal_is c.in_err-times.ensures.fault))

pub returns-in_err-times-clause-left : goal.returns-in_err-times-clause-left
returns-in_err-times-clause-left g c asked is =
    err_is _ _ _ c.from_residual-in_err-times.ensures.1
    (unwritten_leaves _ _ _ (IsNamedJournalFault (g.S.Source.file c.args.files.now) _ c.args.planned.now.timed.plan.dag (intervals_in c.args.report.now.runs)) (λ n is. is) c.in_err-times.field-0.0 c.in_err-times.ensures.fault)

pub returns-in_err-write_report_page-clause-fault : goal.returns-in_err-write_report_page-clause-fault
returns-in_err-write_report_page-clause-fault g c asked is =
    let files = g.S.Source.file c.args.files.now in
    let readable : AreReadable files (named_paths _) = subst (λ (j : Option (List ℕ)). AreReadable files (named_paths j)) is.journal_is c.in_ok-times.ensures.readable in
    err_is _ _ _ c.from_residual-in_err-write_report_page.ensures.1
    (writing_page files asked c.args.planned.now c.args.report.now is.plan is.readable is.read readable _ c.in_err-write_report_page.ensures.fault)

pub returns-in_err-write_report_page-clause-left : goal.returns-in_err-write_report_page-clause-left
returns-in_err-write_report_page-clause-left g c asked is =
    let files = g.S.Source.file c.args.files.now in
    let planned = c.args.planned.now in
    let report = c.args.report.now in
    let intervals = intervals_in report.runs in
    let times = string_bytes c.in_ok-times.times in
    let matches = ap (λ (d : Dag). is_of_graph d report) (sym c.dag.ensures.dag) ∙ c.in_ok-refuse_other_graph.ensures.ok in
    let readable : AreReadable files (named_paths _) = subst (λ (j : Option (List ℕ)). AreReadable files (named_paths j)) is.journal_is c.in_ok-times.ensures.readable in
    let tell = subst (λ (n : Option (List ℕ)). (j : Option (List ℕ)) → IsHeldIfNamed files n j → AreTimesTold planned.timed.plan.dag intervals j times) is.journal_is c.in_ok-times.ensures.times in
    let page : (text : List ℕ) → IsPage c.args.words.now planned.graph.items planned.timed.plan.dag report c.as_str.result.now text → IsPage _ planned.graph.items planned.timed.plan.dag report times text = λ text made.
    subst (λ (w : PageWords). IsPage w planned.graph.items planned.timed.plan.dag report times text) is.words_are
    (subst (λ (t : List ℕ). IsPage c.args.words.now planned.graph.items planned.timed.plan.dag report t text) c.as_str.ensures.value made) in
    err_is _ _ _ c.from_residual-in_err-write_report_page.ensures.1
    (leaves_due _ _ _ (λ text made. (Status.Success, page_answer files asked planned report is.plan is.readable is.read matches readable times tell text (page text made)))
    _ _ _ c.in_err-write_report_page.ensures.left)

pub returns-clause-answer : goal.returns-clause-answer
returns-clause-answer g c asked is =
    let files = g.S.Source.file c.args.files.now in
    let planned = c.args.planned.now in
    let report = c.args.report.now in
    let intervals = intervals_in report.runs in
    let times = string_bytes c.in_ok-times.times in
    let matches = ap (λ (d : Dag). is_of_graph d report) (sym c.dag.ensures.dag) ∙ c.in_ok-refuse_other_graph.ensures.ok in
    let readable : AreReadable files (named_paths _) = subst (λ (j : Option (List ℕ)). AreReadable files (named_paths j)) is.journal_is c.in_ok-times.ensures.readable in
    let tell = subst (λ (n : Option (List ℕ)). (j : Option (List ℕ)) → IsHeldIfNamed files n j → AreTimesTold planned.timed.plan.dag intervals j times) is.journal_is c.in_ok-times.ensures.times in
    let sends = c.in_ok-write_report_page.ensures.page in
    let page = subst (λ (w : PageWords). IsPage w planned.graph.items planned.timed.plan.dag report times sends.0) is.words_are
    (subst (λ (t : List ℕ). IsPage c.args.words.now planned.graph.items planned.timed.plan.dag report t sends.0) c.as_str.ensures.value sends.1) in
    (sends.0, page_answer files asked planned report is.plan is.readable is.read matches readable times tell sends.0 page, sends.2)
