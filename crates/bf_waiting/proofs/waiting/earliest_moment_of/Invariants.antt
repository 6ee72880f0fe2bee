use Rattle.bf_waiting.specs.inner.Looks.{IsSoonestTo}
use Rattle.bf_waiting.proofs.waiting.earliest_moment_of.Given as goal

abbrev pub invariant-loop-class : goal.invariant-loop-class
invariant-loop-class l = IsSoonestTo l.class-index l.classes l.soonest
