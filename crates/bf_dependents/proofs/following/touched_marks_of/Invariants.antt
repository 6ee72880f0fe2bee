use Rattle.bf_dependents.specs.inner.Marks.{AreTouched}
use Rattle.bf_dependents.proofs.following.touched_marks_of.Given as goal

abbrev pub invariant-loop-run : goal.invariant-loop-run
invariant-loop-run l = AreTouched l.plan.dag l.seeds l.run l.rows.items
