use Rattle.bf_waiting.specs.inner.Filling.{AreFilled}
use Rattle.bf_waiting.proofs.waiting.Waiting.fill_run.Given as goal

abbrev pub invariant-loop-task : goal.invariant-loop-task
invariant-loop-task l = AreFilled l.core l.self l.run l.task
