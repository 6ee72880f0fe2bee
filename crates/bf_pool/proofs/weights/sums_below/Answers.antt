use Rattle.std.proofs.Common.{◌≡◌, ◌∙◌, cond, ap, length, arith}
use Rattle.std.specs.List.{filter, range_with_len}
use Rattle.bf_graph.specs.Shape.{Shape}
use Rattle.bf_graph.specs.Reach.{is_marked_in}
use Rattle.bf_plan.specs.declared.plan.Dag.{Dag}
use Rattle.bf_pool.specs.Weights.{does_reach, weight_sum_of}
use Rattle.bf_pool.proofs.WeightFacts.{tasks_there, sums_are_light, sum_with_marked}
use Rattle.bf_pool.proofs.weights.sums_below.Goals as goal

pub add_where_marked-requires-clause-room : goal.add_where_marked-requires-clause-room
add_where_marked-requires-clause-room c = λ t.
    let light = c.limits-limits.ensures.fit.light in
    let sum = sums_are_light c.args.plan.now.limits light (does_reach c.graph-graph.result.now.upstreams) c.loop-task.sums.items c.len-tasks.result c.loop-task.task c.loop-task.invariant.len c.loop-task.invariant.sum t in
    let few = c.dag.ensures.sound.few_tasks in
    let tasks = ap (λ (d : Dag). length d.tasks) c.dag.ensures.dag in
    omega (arith, sum, light c.loop-task.task, ap (λ d. d.weight) c.demand-own.ensures.demand, few, tasks, c.len-tasks.ensures, c.loop-task-test.true)

pub loop-task-preserved : goal.loop-task-preserved
loop-task-preserved c =
    let ups = c.graph-graph.result.now.upstreams in
    let tasks = ap (λ (d : Dag). length d.tasks) c.dag.ensures.dag in
    let there : length ups ≡ c.len-tasks.result = omega (arith, ap (λ (s : Shape). length s.upstreams) c.graph-graph.ensures, tasks_there c.args.plan.now.dag, tasks, c.len-tasks.ensures) in
    record {
      len = c.add_where_marked.ensures.len ∙ c.loop-task.invariant.len;
      sum = λ t h.
          let len = c.loop-task.invariant.len in
          let own = ap (λ d. cond (is_marked_in c.reaching.result.now t) d.weight 0) c.demand-own.ensures.demand in
          let more = sum_with_marked ups c.tasks_have_ranks.ensures (length ups) c.loop-task.task c.reaching.result.now c.reaching.ensures c.args.plan.now.limits t (omega (arith, h, there)) in
          omega (arith, c.add_where_marked.ensures.sums t (omega (arith, h, len)), c.loop-task.invariant.sum t h, own, more);
    }

pub returns : goal.returns
returns c =
    let ups = c.graph-graph.result.now.upstreams in
    let light = c.limits-limits.ensures.fit.light in
    let few = c.dag.ensures.sound.few_tasks in
    let tasks = ap (λ (d : Dag). length d.tasks) c.dag.ensures.dag in
    let there : length ups ≡ c.len-tasks.result = omega (arith, ap (λ (s : Shape). length s.upstreams) c.graph-graph.ensures, tasks_there c.args.plan.now.dag, tasks, c.len-tasks.ensures) in
    record {
      len = omega (arith, c.loop-task.invariant.len, tasks, c.len-tasks.ensures);
      sum = λ t h.
          let all : c.loop-task.task ≡ length ups = omega (arith, there, c.loop-task-test.false, c.loop-task.auto.task-end) in
          c.loop-task.invariant.sum t (omega (arith, h, tasks, c.len-tasks.ensures))
          ∙ ap (λ n. weight_sum_of c.args.plan.now.limits (filter (does_reach ups t) (range_with_len 0 n))) all
          ∙ ap (λ (s : Shape). weight_sum_of c.args.plan.now.limits (filter (does_reach s.upstreams t) (range_with_len 0 (length s.upstreams)))) c.graph-graph.ensures;
      bound = λ t. let sum = sums_are_light c.args.plan.now.limits light (does_reach ups) c.loop-task.sums.items c.len-tasks.result c.loop-task.task c.loop-task.invariant.len c.loop-task.invariant.sum t in omega (arith, sum, few, tasks, c.len-tasks.ensures, c.loop-task.auto.task-end);
    }
