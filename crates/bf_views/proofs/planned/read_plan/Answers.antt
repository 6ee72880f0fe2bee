use Rattle.bf_views.proofs.Alike.{lent, plan_of, timed_fault, timed_of}
use Rattle.bf_views.proofs.PageEnds.{err_is}
use Rattle.bf_views.proofs.planned.read_plan.Goals as goal

pub returns-in_err-timed-clause-fault : goal.returns-in_err-timed-clause-fault
returns-in_err-timed-clause-fault g c =
    let files = g.S.Source.file c.args.files.now in
    let alike = lent files c.args.asked _ c.deref.result.now _ _ c.deref.ensures.value c.zone_file.ensures c.in_ok-files.ensures.alike in
    err_is _ _ _ c.from_residual-in_err-timed.ensures.1 (timed_fault files c.args.asked c.deref.result.now _ c.in_ok-files.ensures.readable alike _ c.in_err-timed.ensures.fault)

pub returns-clause-plan : goal.returns-clause-plan
returns-clause-plan g c = λ graph zone are.
    let files = g.S.Source.file c.args.files.now in
    let alike = lent files c.args.asked _ c.deref.result.now _ _ c.deref.ensures.value c.zone_file.ensures c.in_ok-files.ensures.alike in
    let plan = plan_of c.deref.result.now graph _ zone (alike graph zone are) _ c.in_ok-timed.ensures.plan in
    (c.in_ok-files.ensures.whole graph zone are _ plan.graph_is.says, plan)

pub returns-clause-zone : goal.returns-clause-zone
returns-clause-zone g c = λ graph zone are.
    let files = g.S.Source.file c.args.files.now in
    let alike = lent files c.args.asked _ c.deref.result.now _ _ c.deref.ensures.value c.zone_file.ensures c.in_ok-files.ensures.alike in
    timed_of c.deref.result.now graph _ zone (alike graph zone are) c.in_ok-timed.timed c.in_ok-timed.ensures.zone
