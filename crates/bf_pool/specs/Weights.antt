-- What a task weighs when instances wait for room in a pool (Airflow's "Priority Weights").
use Rattle.std.specs.Prelude.{◌≡◌, ℕ, zero, suc, ◌+◌, ◌<◌, ◌==◌, ◌||◌, Bool, false, List, length, slice_index}
use Rattle.std.specs.List.{list_any, filter, range_with_len, sum_by}
use Rattle.bf_graph.specs.Edges.{upstreams_of}
use Rattle.bf_plan.specs.declared.kinds.WeightRule.{WeightRule}
use Rattle.bf_plan.specs.declared.plan.Limits.{Limits}
use Rattle.bf_plan.specs.declared.plan.Dag.{Dag}
use Rattle.bf_plan.specs.Sound.{demand_of}
use Rattle.bf_plan.specs.Plans.{shape_of}

-- a path of one to n edges leads from a to t
abbrev pub leads_within : List (List ℕ) → ℕ → ℕ → ℕ → Bool
leads_within ups zero a t = false
leads_within ups (suc n) a t = list_any (λ u. a == u || leads_within ups n a u) (upstreams_of ups t)

-- a reaches t: no path without a cycle has more edges than there are tasks
unfoldable pub does_reach : List (List ℕ) → ℕ → ℕ → Bool
does_reach ups a t = leads_within ups (length ups) a t

-- whether a task counts for t beside t itself: its descendants do, or its ancestors, or none
abbrev pub counts_for : WeightRule → List (List ℕ) → ℕ → ℕ → Bool
counts_for WeightRule.Downstream ups t u = does_reach ups t u
counts_for WeightRule.Upstream ups t u = does_reach ups u t
counts_for WeightRule.Absolute ups t u = false

-- the distinct tasks that count for t beside t itself
abbrev pub tasks_counting : WeightRule → List (List ℕ) → ℕ → List ℕ
tasks_counting rule ups t = filter (counts_for rule ups t) (range_with_len 0 (length ups))

-- the weights of tasks in all
abbrev pub weight_sum_of : Limits → List ℕ → ℕ
weight_sum_of limits tasks = sum_by (λ t. (demand_of limits t).weight) tasks

-- a task's own weight, and those of the distinct tasks that count for it by its weight rule
abbrev pub total_weight_of : Dag → Limits → ℕ → ℕ
total_weight_of dag limits t =
    let own = demand_of limits t in own.weight + weight_sum_of limits
    (tasks_counting own.weight_rule (shape_of dag).upstreams t)

-- the total weight of each task
abbrev pub AreWeights : Dag → Limits → List ℕ → Type 0
AreWeights dag limits weights =
    (task : ℕ) → task < length dag.tasks → slice_index weights task
    ≡ total_weight_of dag limits task
