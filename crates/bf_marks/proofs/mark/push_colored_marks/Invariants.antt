use Rattle.std.proofs.Common.{◌≡◌, ◌++◌, None, drop}
use Rattle.bf_marks.specs.CellMarks.{colored_marks}
use Rattle.bf_marks.proofs.mark.push_colored_marks.Given as goal

abbrev pub invariant-loop-mark : goal.invariant-loop-mark
invariant-loop-mark l = l.text.items ++ colored_marks l.before (drop l.mark-index l.marks) ≡ l.fn.text.items ++ colored_marks None l.marks
