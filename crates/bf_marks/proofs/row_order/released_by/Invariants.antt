use Rattle.std.proofs.Common.{◌≡◌, filter}
use Rattle.std.specs.List.{range_with_len}
use Rattle.bf_marks.specs.RowOrder.{is_let_go_in}
use Rattle.bf_marks.proofs.row_order.released_by.Given as goal

abbrev pub invariant-loop-other : goal.invariant-loop-other
invariant-loop-other l = l.found.items ≡ filter (is_let_go_in l.dag l.standing l.task) (range_with_len 0 l.other)
