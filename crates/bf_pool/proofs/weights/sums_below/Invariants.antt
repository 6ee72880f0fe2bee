use Rattle.std.proofs.Common.{◌≡◌, ◌<◌, ℕ, length, get_or}
use Rattle.std.specs.List.{filter, range_with_len}
use Rattle.bf_pool.specs.Weights.{does_reach, weight_sum_of}
use Rattle.bf_pool.proofs.weights.sums_below.Given as goal

abbrev pub invariant-loop-task : goal.invariant-loop-task
invariant-loop-task l = record {
  len : length l.sums.items ≡ l.tasks;
  sum : (t : ℕ) → t < l.tasks → get_or l.sums.items t 0 ≡ weight_sum_of l.plan.limits (filter (does_reach l.graph.upstreams t) (range_with_len 0 l.task));
}
