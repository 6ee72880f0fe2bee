use Rattle.std.proofs.Common.{◌≡◌, ℕ, ◌<◌, Some, slice_get}
use Rattle.bf_graph.specs.Edges.{lists}
use Rattle.bf_graph.specs.Reach.{Reaches}
use Rattle.bf_check.proofs.pulls.are_settled.Given as goal

abbrev pub invariant-loop-pull : goal.invariant-loop-pull
invariant-loop-pull l = (k u : ℕ) → k < l.pull-index → slice_get l.pulls k ≡ Some u → Reaches (lists l.settling) u l.task
