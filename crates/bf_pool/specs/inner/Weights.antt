-- Sums of weights, of which total weights are made.
use Rattle.std.specs.Prelude.{◌≡◌, ℕ, ◌<◌, ◌≤◌, List, length, slice_index}
use Rattle.bf_plan.specs.declared.kinds.WeightRule.{WeightRule}
use Rattle.bf_plan.specs.declared.plan.Limits.{Limits}
use Rattle.bf_plan.specs.declared.plan.Dag.{Dag}
use Rattle.bf_plan.specs.Plans.{shape_of}
use Rattle.bf_pool.specs.Weights.{tasks_counting, weight_sum_of}

-- for each task, the sum of its descendants' own weights
pub record AreSumsBelow (dag : Dag) (limits : Limits) (sums : List ℕ) : Type 0 where
  pub len : length sums ≡ length dag.tasks
  pub sum : (task : ℕ) → task < length dag.tasks → slice_index sums task
      ≡ weight_sum_of limits
      (tasks_counting WeightRule.Downstream (shape_of dag).upstreams task)
  pub bound : (task : ℕ) → slice_index sums task ≤ 2_000_000_000
