use Rattle.std.proofs.Common.{List, ℕ, sym, ap, ◌∙◌, subst, string_bytes}
use Rattle.bf_plan.specs.declared.plan.Dag.{Dag}
use Rattle.bf_marks.specs.declared.view.View.{View}
use Rattle.bf_command_fault.specs.declared.status.Status.{Status}
use Rattle.bf_command_fault.proofs.Leaving.{leaves_due}
use Rattle.bf_grid.specs.Grid.{grid_text}
use Rattle.bf_views.specs.Matching.{is_of_graph}
use Rattle.bf_views.specs.inner.Refused.{IsRefusedBy}
use Rattle.bf_views.proofs.GridEnds.{grid_answer, reported_fault}
use Rattle.bf_views.proofs.PageEnds.{err_is}
use Rattle.bf_views.proofs.ReportedEnds.{refusal_fault, unwritten_leaves, writing_fault}
use Rattle.bf_views.proofs.show.write_grid_if_matching.Goals as goal

pub returns-in_err-refuse_other_graph-clause-fault : goal.returns-in_err-refuse_other_graph-clause-fault
returns-in_err-refuse_other_graph-clause-fault g c files asked canvas is =
    let refused = subst (λ (d : Dag). IsRefusedBy (is_of_graph d c.args.report.now) c.in_err-refuse_other_graph.field-0.0) c.dag.ensures.dag c.in_err-refuse_other_graph.ensures.err in
    err_is _ _ _ c.from_residual.ensures.1
    (reported_fault files asked is.bounds is.means is.ordered _ (refusal_fault files asked.graph (string_bytes asked.report) c.args.planned.now c.args.report.now is.plan is.readable is.read _ refused))

pub returns-in_err-refuse_other_graph-clause-left : goal.returns-in_err-refuse_other_graph-clause-left
returns-in_err-refuse_other_graph-clause-left g c files asked canvas is =
    let refused = subst (λ (d : Dag). IsRefusedBy (is_of_graph d c.args.report.now) c.in_err-refuse_other_graph.field-0.0) c.dag.ensures.dag c.in_err-refuse_other_graph.ensures.err in
    err_is _ _ _ c.from_residual.ensures.1
    (unwritten_leaves _ _ _ (IsRefusedBy (is_of_graph c.args.planned.now.timed.plan.dag c.args.report.now)) (λ n is. is) _ refused)

pub returns-in_err-write_view-clause-fault : goal.returns-in_err-write_view-clause-fault
returns-in_err-write_view-clause-fault g c files asked canvas is =
    err_is _ _ _ c.from_residual-in_err-write_view.ensures.1
    (reported_fault files asked is.bounds is.means is.ordered _ (writing_fault files asked.graph (string_bytes asked.report) c.args.planned.now c.args.report.now is.plan is.readable is.read _ c.in_err-write_view.ensures.fault))

pub returns-in_err-write_view-clause-left : goal.returns-in_err-write_view-clause-left
returns-in_err-write_view-clause-left g c files asked canvas is =
    let planned = c.args.planned.now in
    let report = c.args.report.now in
    let matches = ap (λ (d : Dag). is_of_graph d report) (sym c.dag.ensures.dag) ∙ c.in_ok-refuse_other_graph.ensures.ok in
    err_is _ _ _ c.from_residual-in_err-write_view.ensures.1
    (leaves_due _ _ _ (λ text same. (
      Status.Success,
      grid_answer files asked is.bounds is.means canvas is.ordered planned report is.plan is.readable is.read matches text (same ∙ ap (λ (v : View). grid_text v planned.timed.plan.dag report) is.view_is),
    )) _ _ _ c.in_err-write_view.ensures.left)

pub returns-clause-answer : goal.returns-clause-answer
returns-clause-answer g c files asked canvas is =
    let planned = c.args.planned.now in
    let report = c.args.report.now in
    let matches = ap (λ (d : Dag). is_of_graph d report) (sym c.dag.ensures.dag) ∙ c.in_ok-refuse_other_graph.ensures.ok in
    let text : List ℕ = grid_text c.args.view.now planned.timed.plan.dag report in (
      text,
      grid_answer files asked is.bounds is.means canvas is.ordered planned report is.plan is.readable is.read matches text (ap (λ (v : View). grid_text v planned.timed.plan.dag report) is.view_is),
      c.in_ok-write_view.ensures.grid,
    )
