use Rattle.bf_waiting.specs.inner.Filling.{AreFilled}
use Rattle.bf_waiting.proofs.waiting.Waiting.fill.Given as goal

abbrev pub invariant-loop-run : goal.invariant-loop-run
invariant-loop-run l = AreFilled l.core l.self l.run 0
