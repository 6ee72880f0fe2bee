use Rattle.std.proofs.Common.{◌≡◌, filter}
use Rattle.std.specs.List.{range_with_len}
use Rattle.bf_marks.specs.RowOrder.{has_no_upstreams_in}
use Rattle.bf_marks.proofs.row_order.tasks_without_upstreams.Given as goal

abbrev pub invariant-loop-task : goal.invariant-loop-task
invariant-loop-task l = l.found.items ≡ filter (has_no_upstreams_in l.dag) (range_with_len 0 l.task)
