use Rattle.std.proofs.Common.{◌≡◌, ℕ, ◌<◌, get_or, vec_len}
use Rattle.bf_pool.specs.Weights.{total_weight_of}
use Rattle.bf_pool.proofs.weights.total_weights_of.Given as goal

abbrev pub invariant-loop-task : goal.invariant-loop-task
invariant-loop-task l = (vec_len l.weights ≡ l.task) × ((t : ℕ) → t < l.task → get_or l.weights.items t 0 ≡ total_weight_of l.plan.dag l.plan.limits t)
