use Rattle.bf_dependents.proofs.RightMarks.{AreMarksForTo}
use Rattle.bf_dependents.proofs.following.marks_of.Given as goal

abbrev pub invariant-loop-task : goal.invariant-loop-task
invariant-loop-task l = AreMarksForTo l.dag l.seeded l.before l.order l.task-index l.marks.items
