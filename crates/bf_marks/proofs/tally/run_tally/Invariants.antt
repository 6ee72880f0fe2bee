use Rattle.std.proofs.Common.{◌≡◌, map, take}
use Rattle.bf_marks.specs.Tallies.{sum, task_tally}
use Rattle.bf_marks.proofs.tally.run_tally.Given as goal

abbrev pub invariant-loop-task : goal.invariant-loop-task
invariant-loop-task l = l.tally ≡ sum (map task_tally (take l.task-index l.task-items))
