use Rattle.std.proofs.Common.{◌≡◌, ◌++◌, ◌-◌, length, reverse}
use Rattle.bf_marks.specs.RowOrder.{order_from, order_of}
use Rattle.bf_marks.proofs.row_order.tasks_in_order.Given as goal

abbrev pub invariant-loop-alloc : goal.invariant-loop-alloc
invariant-loop-alloc l =
    l.order.items ++ order_from l.dag (length l.dag.tasks - length l.order.items) l.walk.standing.items (reverse l.walk.left.items) ≡ order_of l.dag

abbrev pub decreases-loop-alloc : goal.decreases-loop-alloc
decreases-loop-alloc l = length l.dag.tasks - length l.order.items
