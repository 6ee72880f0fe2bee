use Rattle.std.proofs.Common.{ap, ◌∙◌}
use Rattle.bf_device.specs.Device.{sent}
use Rattle.bf_plan.specs.declared.plan.Dag.{Dag}
use Rattle.bf_command_fault.proofs.Leaving.{write_leaves}
use Rattle.bf_grid.specs.Grid.{grid_text}
use Rattle.bf_views.proofs.GridEnds.{is_unwritten}
use Rattle.bf_views.proofs.PageEnds.{err_is}
use Rattle.bf_views.proofs.show.write_view.Goals as goal

pub returns-in_err-write_grid-clause-fault : goal.returns-in_err-write_grid-clause-fault
returns-in_err-write_grid-clause-fault g c = err_is _ _ _ c.from_residual.ensures.1 (is_unwritten _)

pub returns-in_err-write_grid-clause-left : goal.returns-in_err-write_grid-clause-left
returns-in_err-write_grid-clause-left g c =
    let view = c.args.view.now in
    let report = c.args.report.now in
    err_is _ _ _ c.from_residual.ensures.1
    (write_leaves _ _ _ _ (grid_text view c.dag.result.now report) (ap (λ (d : Dag). grid_text view d report) c.dag.ensures.dag) _
    c.in_err-write_grid.ensures.part c.in_err-write_grid.ensures.io c.in_err-write_grid.ensures.memory)

pub returns-clause-grid : goal.returns-clause-grid
returns-clause-grid g c =
    let view = c.args.view.now in
    let report = c.args.report.now in
    c.in_ok-write_grid.ensures.ok ∙ ap (λ (d : Dag). sent (g.W.Write.written c.args.out.now) (grid_text view d report)) c.dag.ensures.dag
