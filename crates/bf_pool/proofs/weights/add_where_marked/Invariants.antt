use Rattle.std.proofs.Common.{◌≡◌, ◌+◌, ◌<◌, ◌≤◌, ℕ, cond, length, get_or}
use Rattle.bf_graph.specs.Reach.{is_marked_in}
use Rattle.bf_pool.proofs.weights.add_where_marked.Given as goal

abbrev pub invariant-loop-task : goal.invariant-loop-task
invariant-loop-task l = record {
  len : length l.sum-items ≡ length l.fn.sums.items;
  done : (j : ℕ) → j < l.task → get_or l.sum-items j 0 ≡ get_or l.fn.sums.items j 0 + cond (is_marked_in l.marks j) l.weight 0;
  left : (j : ℕ) → l.task ≤ j → get_or l.sum-items j 0 ≡ get_or l.fn.sums.items j 0;
}
