use Rattle.std.proofs.Common.{◌≡◌, length, refl, ap, ◌∙◌, arith}
use Rattle.bf_cells.specs.Cells.{cells_text}
use Rattle.bf_page.specs.declared.page.PageTexts.{PageTexts}
use Rattle.bf_page.specs.Page.{page_text}
use Rattle.bf_views.specs.Pages.{AreTextsOf, PageWords, report_shown}
use Rattle.bf_views.proofs.MatchingFacts.{all_tasks}
use Rattle.bf_views.proofs.PageEnds.{err_is, is_writing, write_leaves}
use Rattle.bf_views.proofs.page.write_report_page.Goals as goal

pub cells_of-requires-clause-tasks : goal.cells_of-requires-clause-tasks
cells_of-requires-clause-tasks g c = all_tasks c.args.planned.now.timed.plan.dag c.args.report.now c.requires.matches

pub returns-in_err-write_page-clause-fault : goal.returns-in_err-write_page-clause-fault
returns-in_err-write_page-clause-fault g c = err_is _ _ _ c.from_residual-in_err-write_page.ensures.1 (is_writing _ c.in_err-write_page.ensures.only_io)

pub returns-in_err-write_page-clause-left : goal.returns-in_err-write_page-clause-left
returns-in_err-write_page-clause-left g c =
    let dag = c.args.planned.now.timed.plan.dag in let report = c.args.report.now in
    let texts : PageTexts = record { graph_path = c.as_str.result; report_path = c.as_str-2.result; zone_path = c.as_str-3.result; cells = c.as_str-4.result; graph = c.deref.result; report = c.report_as_shown.result; times = c.args.times } in
    let size : c.len.result ≡ length c.in_ok-bytes.bytes.items = omega (arith, c.len.ensures, c.in_ok-bytes.bytes.ok.0) in
    let tells : AreTextsOf c.args.words.now c.args.planned.now.graph.items dag report c.args.times.now texts = record {
      graph_path_is = c.as_str.ensures ∙ ap (λ (w : PageWords). w.graph_path) c.words.view_is;
      report_path_is = c.as_str-2.ensures ∙ ap (λ (w : PageWords). w.report_path) c.words.view_is;
      zone_path_is = c.as_str-3.ensures ∙ ap (λ (w : PageWords). w.zone_path) c.words.view_is;
      cells_are = c.as_str-4.ensures.value ∙ c.in_ok-cells.ensures ∙ ap (cells_text dag report) (size ∙ ap length c.in_ok-bytes.ensures);
      graph_is = c.deref.ensures.value;
      report_is = c.report_as_shown.ensures ∙ ap (report_shown c.args.words.now.states_only) (c.deref-2.ensures.value ∙ c.in_ok-bytes.ensures);
      times_are = refl;
    } in
    err_is _ _ _ c.from_residual-in_err-write_page.ensures.1
    (write_leaves _ _ _ _ (page_text texts) (texts, tells, refl) (c.can_be_counted.ensures c.if-not-can_be_counted.false) _ c.in_err-write_page.ensures.only_io c.in_err-write_page.ensures.part c.in_err-write_page.ensures.halted)

pub returns-clause-page : goal.returns-clause-page
returns-clause-page g c =
    let dag = c.args.planned.now.timed.plan.dag in let report = c.args.report.now in
    let texts : PageTexts = record { graph_path = c.as_str.result; report_path = c.as_str-2.result; zone_path = c.as_str-3.result; cells = c.as_str-4.result; graph = c.deref.result; report = c.report_as_shown.result; times = c.args.times } in
    let size : c.len.result ≡ length c.in_ok-bytes.bytes.items = omega (arith, c.len.ensures, c.in_ok-bytes.bytes.ok.0) in
    let tells : AreTextsOf c.args.words.now c.args.planned.now.graph.items dag report c.args.times.now texts = record {
      graph_path_is = c.as_str.ensures ∙ ap (λ (w : PageWords). w.graph_path) c.words.view_is;
      report_path_is = c.as_str-2.ensures ∙ ap (λ (w : PageWords). w.report_path) c.words.view_is;
      zone_path_is = c.as_str-3.ensures ∙ ap (λ (w : PageWords). w.zone_path) c.words.view_is;
      cells_are = c.as_str-4.ensures.value ∙ c.in_ok-cells.ensures ∙ ap (cells_text dag report) (size ∙ ap length c.in_ok-bytes.ensures);
      graph_is = c.deref.ensures.value;
      report_is = c.report_as_shown.ensures ∙ ap (report_shown c.args.words.now.states_only) (c.deref-2.ensures.value ∙ c.in_ok-bytes.ensures);
      times_are = refl;
    } in
    (page_text texts, (texts, tells, refl), c.in_ok-write_page.ensures.ok)
