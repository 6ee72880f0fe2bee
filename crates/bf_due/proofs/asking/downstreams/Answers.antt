use Rattle.std.proofs.Common.{◌≡◌, ap, ◌∙◌, subst}
use Rattle.bf_graph.specs.Edges.{IsUpstream}
use Rattle.bf_graph.specs.Shape.{Shape}
use Rattle.bf_graph.specs.Lookups.{IsRisingListOf}
use Rattle.bf_plan.specs.Plans.{shape_of}
use Rattle.bf_due.proofs.Adding.{below_there, few_rising}
use Rattle.bf_due.proofs.asking.downstreams.Goals as goal

pub returns : goal.returns
returns c =
    let same : c.graph.result.now ≡ shape_of c.args.core.now.dag = c.graph.ensures ∙ ap shape_of c.plan.ensures.dag in
    let rising : IsRisingListOf (IsUpstream (shape_of c.args.core.now.dag).upstreams c.args.task) c.downstreams.result.now =
    subst (λ (g : Shape). IsRisingListOf (IsUpstream g.upstreams c.args.task) c.downstreams.result.now) same c.downstreams.ensures in
    record {
      rising = rising;
      tasks = below_there c.args.core.now.dag c.args.task c.downstreams.result.now rising;
      few = few_rising c.downstreams.result.now _ rising.rising (below_there c.args.core.now.dag c.args.task c.downstreams.result.now rising);
    }
