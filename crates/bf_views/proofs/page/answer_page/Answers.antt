use Rattle.std.proofs.Common.{◌≡◌, List, ℕ, Option, refl, ◌∙◌, subst, string_bytes}
use Rattle.bf_disk.specs.Files.{IsReadable}
use Rattle.bf_input.specs.Inputs.{IsReportFault}
use Rattle.bf_input.specs.inner.Inputs.{IsReadOf}
use Rattle.bf_views.specs.Pages.{journal_path}
use Rattle.bf_views.specs.inner.ReadFor.{IsReadForPage}
use Rattle.bf_views.proofs.PageEnds.{err_is, report_page}
use Rattle.bf_views.proofs.ReportedEnds.{has_graph, unwritten_leaves}
use Rattle.bf_views.proofs.page.answer_page.Goals as goal

pub returns-in_err-report-clause-fault : goal.returns-in_err-report-clause-fault
returns-in_err-report-clause-fault g c =
    let files = g.S.Source.file c.args.files.now in
    let path = string_bytes c.args.asked.report in
    let is = subst (λ (f : Option (Option (List ℕ))). IsReportFault path f c.in_err-report.field-0.0) (c.in_ok-planned.ensures.stays path) c.in_err-report.ensures.fault in
    let has = has_graph files c.args.asked.graph c.in_ok-planned.planned c.in_ok-planned.ensures.plan c.in_ok-planned.ensures.readable in
    err_is _ _ _ c.from_residual-in_err-report.ensures.1 (report_page files c.args.asked has c.in_err-report.field-0.0 is)

pub returns-in_err-report-clause-left : goal.returns-in_err-report-clause-left
returns-in_err-report-clause-left g c =
    let files = g.S.Source.file c.args.files.now in
    let path = string_bytes c.args.asked.report in
    let is = subst (λ (f : Option (Option (List ℕ))). IsReportFault path f c.in_err-report.field-0.0) (c.in_ok-planned.ensures.stays path) c.in_err-report.ensures.fault in
    err_is _ _ _ c.from_residual-in_err-report.ensures.1 (unwritten_leaves _ _ _ (IsReportFault path (files path)) (λ n is. is) c.in_err-report.field-0.0 is)

pub returns-clause-answer : goal.returns-clause-answer
returns-clause-answer g c =
    let files = g.S.Source.file c.args.files.now in
    let path = string_bytes c.args.asked.report in
    let stays = c.in_ok-planned.ensures.stays path in
    let read : IsReadOf (files path) c.in_ok-report.report = record { readable = subst IsReadable stays c.in_ok-report.ensures.readable; says = λ held told. c.in_ok-report.ensures.says held (stays ∙ told) } in
    let same : g.S.Source.file c.read_report_file.new.files ≡ files = λ i p. (c.in_ok-report.ensures.stays p ∙ c.in_ok-planned.ensures.stays p) i in
    let is : IsReadForPage files c.args.asked c.in_ok-words.words c.in_ok-planned.planned c.in_ok-report.report (journal_path c.args.asked) = record {
      words_are = c.in_ok-words.ensures;
      plan = c.in_ok-planned.ensures.plan;
      readable = c.in_ok-planned.ensures.readable;
      read = read;
      journal_is = refl;
    } in
    let told : _ = rw same at c.write_page_if_matching-written.ensures.answer c.args.asked in
    told is

pub returns-clause-fault : goal.returns-clause-fault
returns-clause-fault g c =
    let files = g.S.Source.file c.args.files.now in
    let path = string_bytes c.args.asked.report in
    let stays = c.in_ok-planned.ensures.stays path in
    let read : IsReadOf (files path) c.in_ok-report.report = record { readable = subst IsReadable stays c.in_ok-report.ensures.readable; says = λ held told. c.in_ok-report.ensures.says held (stays ∙ told) } in
    let same : g.S.Source.file c.read_report_file.new.files ≡ files = λ i p. (c.in_ok-report.ensures.stays p ∙ c.in_ok-planned.ensures.stays p) i in
    let is : IsReadForPage files c.args.asked c.in_ok-words.words c.in_ok-planned.planned c.in_ok-report.report (journal_path c.args.asked) = record {
      words_are = c.in_ok-words.ensures;
      plan = c.in_ok-planned.ensures.plan;
      readable = c.in_ok-planned.ensures.readable;
      read = read;
      journal_is = refl;
    } in
    let told : _ = rw same at c.write_page_if_matching-written.ensures.fault c.args.asked in
    told is

pub returns-clause-left : goal.returns-clause-left
returns-clause-left g c =
    let files = g.S.Source.file c.args.files.now in
    let path = string_bytes c.args.asked.report in
    let stays = c.in_ok-planned.ensures.stays path in
    let read : IsReadOf (files path) c.in_ok-report.report = record { readable = subst IsReadable stays c.in_ok-report.ensures.readable; says = λ held told. c.in_ok-report.ensures.says held (stays ∙ told) } in
    let same : g.S.Source.file c.read_report_file.new.files ≡ files = λ i p. (c.in_ok-report.ensures.stays p ∙ c.in_ok-planned.ensures.stays p) i in
    let is : IsReadForPage files c.args.asked c.in_ok-words.words c.in_ok-planned.planned c.in_ok-report.report (journal_path c.args.asked) = record {
      words_are = c.in_ok-words.ensures;
      plan = c.in_ok-planned.ensures.plan;
      readable = c.in_ok-planned.ensures.readable;
      read = read;
      journal_is = refl;
    } in
    let told : _ = rw same at c.write_page_if_matching-written.ensures.left c.args.asked in
    told is
