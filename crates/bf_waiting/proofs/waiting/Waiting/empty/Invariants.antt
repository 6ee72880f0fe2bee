use Rattle.bf_waiting.specs.inner.Filling.{AreClassedTo}
use Rattle.bf_waiting.proofs.waiting.Waiting.empty.Given as goal

abbrev pub invariant-loop-task : goal.invariant-loop-task
invariant-loop-task l = AreClassedTo l.plan.dag l.plan.limits l.task l.class_of.items l.classes.items
