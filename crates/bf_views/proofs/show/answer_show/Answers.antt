use Rattle.std.proofs.Common.{ℕ, List, Option, sym, ap, ◌∙◌, subst, string_bytes}
use Rattle.bf_plan.specs.declared.plan.Dag.{Dag}
use Rattle.bf_marks.specs.declared.view.View.{View}
use Rattle.bf_command_fault.specs.declared.status.Status.{Status}
use Rattle.bf_command_fault.proofs.Leaving.{leaves_due}
use Rattle.bf_disk.specs.Files.{IsReadable}
use Rattle.bf_grid.specs.Grid.{grid_text}
use Rattle.bf_input.specs.Inputs.{IsReportFault}
use Rattle.bf_input.specs.inner.Inputs.{IsReadOf}
use Rattle.bf_views.specs.Matching.{is_of_graph}
use Rattle.bf_views.specs.Planned.{IsPlanningFault}
use Rattle.bf_views.specs.inner.Refused.{IsRefusedBy}
use Rattle.bf_views.proofs.GridEnds.{planned_fault, reported_fault, reversed_fault, reversed_leaves, unmeant_fault, unmeant_leaves}
use Rattle.bf_views.proofs.PageEnds.{fails}
use Rattle.bf_views.proofs.ReportedEnds.{has_graph, report_fault, unwritten_leaves}
use Rattle.bf_views.proofs.show.answer_show.Goals as goal

pub returns-in_err-bounds : goal.returns-in_err-bounds
returns-in_err-bounds g c =
    fails _ _ _ _ _ c.from_residual.ensures.1
    (unmeant_fault (g.S.Source.file c.args.files.now) c.args.asked _ c.in_err-bounds.ensures.bad) (unmeant_leaves _ _ _ c.args.asked _ c.in_err-bounds.ensures.bad)

pub returns-in_err-planned : goal.returns-in_err-planned
returns-in_err-planned g c =
    let files = g.S.Source.file c.args.files.now in
    fails _ _ _ _ _ c.from_residual-in_err-planned.ensures.1
    (planned_fault files c.args.asked c.in_ok-bounds.bounds c.in_ok-bounds.ensures.means _ c.in_err-planned.ensures.fault)
    (unwritten_leaves _ _ _ (IsPlanningFault files c.args.asked.graph) (λ n is. is) _ c.in_err-planned.ensures.fault)

pub returns-in_err-refuse_reversed : goal.returns-in_err-refuse_reversed
returns-in_err-refuse_reversed g c =
    let files = g.S.Source.file c.args.files.now in
    let has = has_graph files c.args.asked.graph c.in_ok-planned.planned c.in_ok-planned.ensures.plan c.in_ok-planned.ensures.readable in
    fails _ _ _ _ _ c.from_residual-in_err-refuse_reversed.ensures.1
    (reversed_fault files c.args.asked c.in_ok-bounds.bounds c.in_ok-bounds.ensures.means has _ c.in_err-refuse_reversed.ensures.err)
    (reversed_leaves _ _ _ c.in_ok-bounds.bounds _ c.in_err-refuse_reversed.ensures.err)

pub returns-in_err-report : goal.returns-in_err-report
returns-in_err-report g c =
    let files = g.S.Source.file c.args.files.now in
    let path = string_bytes c.args.asked.report in
    let is = subst (λ (file : Option (Option (List ℕ))). IsReportFault path file c.in_err-report.field-0.0) (c.in_ok-planned.ensures.stays path) c.in_err-report.ensures.fault in
    let has = has_graph files c.args.asked.graph c.in_ok-planned.planned c.in_ok-planned.ensures.plan c.in_ok-planned.ensures.readable in
    fails _ _ _ _ _ c.from_residual-in_err-report.ensures.1
    (reported_fault files c.args.asked c.in_ok-bounds.bounds c.in_ok-bounds.ensures.means c.in_ok-refuse_reversed.ensures.ok _ (report_fault files c.args.asked.graph path has _ is))
    (unwritten_leaves _ _ _ (IsReportFault path (files path)) (λ n is. is) _ is)

pub returns-clause-answer : goal.returns-clause-answer
returns-clause-answer g c =
    let files = g.S.Source.file c.args.files.now in
    let path = string_bytes c.args.asked.report in
    let stays = c.in_ok-planned.ensures.stays path in
    let read : IsReadOf (files path) c.in_ok-report.report = record { readable = subst IsReadable stays c.in_ok-report.ensures.readable; says = λ held told. c.in_ok-report.ensures.says held (stays ∙ told) } in
    c.write_grid_if_matching-written.ensures.answer files c.args.asked c.args.canvas (record {
      bounds = c.in_ok-bounds.bounds;
      means = c.in_ok-bounds.ensures.means;
      ordered = c.in_ok-refuse_reversed.ensures.ok;
      view_is = c.view_of-view.ensures;
      plan = c.in_ok-planned.ensures.plan;
      readable = c.in_ok-planned.ensures.readable;
      read = read;
    })

pub returns-clause-fault : goal.returns-clause-fault
returns-clause-fault g c =
    let files = g.S.Source.file c.args.files.now in
    let path = string_bytes c.args.asked.report in
    let stays = c.in_ok-planned.ensures.stays path in
    let read : IsReadOf (files path) c.in_ok-report.report = record { readable = subst IsReadable stays c.in_ok-report.ensures.readable; says = λ held told. c.in_ok-report.ensures.says held (stays ∙ told) } in
    c.write_grid_if_matching-written.ensures.fault files c.args.asked c.args.canvas (record {
      bounds = c.in_ok-bounds.bounds;
      means = c.in_ok-bounds.ensures.means;
      ordered = c.in_ok-refuse_reversed.ensures.ok;
      view_is = c.view_of-view.ensures;
      plan = c.in_ok-planned.ensures.plan;
      readable = c.in_ok-planned.ensures.readable;
      read = read;
    })

pub returns-clause-left : goal.returns-clause-left
returns-clause-left g c =
    let files = g.S.Source.file c.args.files.now in
    let path = string_bytes c.args.asked.report in
    let stays = c.in_ok-planned.ensures.stays path in
    let read : IsReadOf (files path) c.in_ok-report.report = record { readable = subst IsReadable stays c.in_ok-report.ensures.readable; says = λ held told. c.in_ok-report.ensures.says held (stays ∙ told) } in
    c.write_grid_if_matching-written.ensures.left files c.args.asked c.args.canvas (record {
      bounds = c.in_ok-bounds.bounds;
      means = c.in_ok-bounds.ensures.means;
      ordered = c.in_ok-refuse_reversed.ensures.ok;
      view_is = c.view_of-view.ensures;
      plan = c.in_ok-planned.ensures.plan;
      readable = c.in_ok-planned.ensures.readable;
      read = read;
    })
