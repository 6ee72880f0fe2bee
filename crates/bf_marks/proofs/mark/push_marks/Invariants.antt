use Rattle.std.proofs.Common.{◌≡◌, ◌++◌, take}
use Rattle.std.specs.List.{flat_map}
use Rattle.bf_marks.specs.CellMarks.{mark_letter}
use Rattle.bf_marks.proofs.mark.push_marks.Given as goal

abbrev pub invariant-loop-mark : goal.invariant-loop-mark
invariant-loop-mark l = l.text.items ≡ l.fn.text.items ++ flat_map mark_letter (take l.mark-index l.marks)
