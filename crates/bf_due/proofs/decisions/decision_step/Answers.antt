use Rattle.std.proofs.Common.{◌≡◌, Some, ap, ◌∙◌, subst}
use Rattle.std.specs.Bool.{then_some}
use Rattle.bf_graph.specs.Edges.{IsRank}
use Rattle.bf_graph.specs.Shape.{Shape}
use Rattle.bf_plan.specs.Plans.{shape_of}
use Rattle.bf_core.proofs.Shape.{open_run_exists}
use Rattle.bf_due.specs.declared.agenda.Step.{Step}
use Rattle.bf_due.proofs.Adding.{settles}
use Rattle.bf_due.proofs.decisions.decision_step.Goals as goal

pub returns-then-waits_for_upstreams_alone-clause-each : goal.returns-then-waits_for_upstreams_alone-clause-each
returns-then-waits_for_upstreams_alone-clause-each c = λ x of due.
    let same : c.graph.result.now ≡ shape_of c.args.core.now.dag = c.graph.ensures ∙ ap shape_of c.plan.ensures.dag in
    let ranked : IsRank (shape_of c.args.core.now.dag).upstreams c.args.task c.rank-rank.result = subst (λ (g : Shape). IsRank g.upstreams c.args.task c.rank-rank.result) same c.rank-rank.ensures in
    let step : _ = settles c.args.core.now c.args.run c.args.task c.rank-rank.result (c.waits_for_upstreams_alone.ensures c.if-waits_for_upstreams_alone.true).single ranked x of due in
    c.then_some.ensures ∙ (ap (λ b. then_some b (Step.Settle (record { run = c.args.run; rank = c.rank-rank.result; task = c.args.task }))) (c.awaits_decision.ensures.1 ((open_run_exists c.args.core.now.state c.args.run step.1.run_is_open, step.1.is_task), step.1.undecided)) ∙ ap Some step.0)
