use Rattle.std.proofs.Common.{◌≡◌, map, take}
use Rattle.bf_marks.specs.CellMarks.{column_mark}
use Rattle.bf_marks.proofs.mark.mark_in.Given as goal

abbrev pub invariant-loop-run : goal.invariant-loop-run
invariant-loop-run l = l.worst ≡ column_mark l.task (map (λ run. run.now) (take l.run-index l.runs))
