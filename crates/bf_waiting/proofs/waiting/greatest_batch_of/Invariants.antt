use Rattle.bf_waiting.specs.inner.Looks.{IsBestTo}
use Rattle.bf_waiting.proofs.waiting.greatest_batch_of.Given as goal

abbrev pub invariant-loop-class : goal.invariant-loop-class
invariant-loop-class l = IsBestTo l.core l.class-index l.classes l.best
