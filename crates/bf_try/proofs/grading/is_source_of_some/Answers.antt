use Rattle.std.proofs.Common.{◌∙◌, ap, subst}
use Rattle.std.specs.List.{list_any}
use Rattle.bf_graph.specs.Edges.{IsUpstream}
use Rattle.bf_graph.specs.Lookups.{IsRisingListOf}
use Rattle.bf_graph.specs.Shape.{Shape}
use Rattle.bf_plan.specs.Plans.{task_of}
use Rattle.bf_plan.specs.declared.plan.Dag.{Dag}
use Rattle.bf_try.specs.Grades.{is_source}
use Rattle.bf_try.proofs.Pushes.{downstreams_tell}
use Rattle.bf_try.proofs.grading.is_source_of_some.Goals as goal

pub returns : goal.returns
returns c =
    let task = c.args.task in
    let downstreams = c.downstreams-downstreams.result.now in
    c.some_is_expanded_over.ensures ∙ ap (λ (dag : Dag). list_any (λ t. is_source (task_of dag t).expand task) downstreams) c.dag.ensures.dag
    ∙ downstreams_tell c.args.plan.now.dag c.dag.ensures.sound task downstreams (subst (λ (shape : Shape). IsRisingListOf (IsUpstream shape.upstreams task) downstreams) c.graph.ensures c.downstreams-downstreams.ensures)
