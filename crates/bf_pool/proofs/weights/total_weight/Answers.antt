use Rattle.std.proofs.Common.{◌≡◌, ◌<◌, ◌∙◌, ap, sym, subst, length, ℕ, All, arith}
use Rattle.bf_graph.specs.Shape.{Shape}
use Rattle.bf_pool.specs.Weights.{counts_for}
use Rattle.bf_pool.proofs.WeightFacts.{tasks_there, few_kept, kept_there}
use Rattle.bf_pool.proofs.weights.total_weight.Goals as goal

pub weight_sum-requires-clause-few : goal.weight_sum-requires-clause-few
weight_sum-requires-clause-few c =
    let n : ℕ = length c.graph.result.now.upstreams in
    let tasks : n ≡ length c.args.plan.now.dag.tasks = ap (λ (s : Shape). length s.upstreams) c.graph.ensures ∙ tasks_there c.args.plan.now.dag in
    let kept = ap length (c.as_slice.ensures.value ∙ c.in_ok-tasks.ensures) in
    omega (arith, kept, tasks, few_kept (counts_for c.demand-own.result.weight_rule c.graph.result.now.upstreams c.args.task) 0 n, c.dag-dag.ensures.sound.few_tasks)

pub weight_sum-requires-clause-there : goal.weight_sum-requires-clause-there
weight_sum-requires-clause-there c =
    let n : ℕ = length c.graph.result.now.upstreams in
    let tasks : n ≡ length c.limits.result.now.demands = ap (λ (s : Shape). length s.upstreams) c.graph.ensures ∙ tasks_there c.args.plan.now.dag ∙ sym c.limits.ensures.fit.one_each ∙ ap (λ l. length l.demands) (sym c.limits.ensures.limits) in
    let there : All (λ t. t < n) c.as_slice.result.now = rw (c.as_slice.ensures.value ∙ c.in_ok-tasks.ensures) (kept_there (counts_for c.demand-own.result.weight_rule c.graph.result.now.upstreams c.args.task) n) in
    λ k d h. omega (arith, there k d h, tasks)

pub overflow_add-result : goal.overflow_add-result
overflow_add-result c = omega (arith, c.limits.ensures.fit.light c.args.task, ap (λ d. d.weight) c.demand-own.ensures.demand, c.weight_sum.ensures.bound)
