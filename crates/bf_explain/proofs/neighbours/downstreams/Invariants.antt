use Rattle.std.proofs.Common.{◌≡◌, filter}
use Rattle.std.specs.List.{range_with_len}
use Rattle.bf_explain.specs.Tasks.{is_downstream_in}
use Rattle.bf_explain.proofs.neighbours.downstreams.Given as goal

abbrev pub invariant-loop-other : goal.invariant-loop-other
invariant-loop-other l = l.found.items ≡ filter (is_downstream_in l.plan.dag l.task) (range_with_len 0 l.other)
