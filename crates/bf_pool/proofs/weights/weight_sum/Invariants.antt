use Rattle.std.proofs.Common.{◌≡◌, ◌≤◌, ◌*◌, take}
use Rattle.bf_pool.specs.Weights.{weight_sum_of}
use Rattle.bf_pool.proofs.weights.weight_sum.Given as goal

abbrev pub invariant-loop-task : goal.invariant-loop-task
invariant-loop-task l = (l.total ≡ weight_sum_of l.limits (take l.task-index l.tasks)) × (l.total ≤ 1_000_000 * l.task-index)
