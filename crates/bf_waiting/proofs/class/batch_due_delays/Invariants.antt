use Rattle.std.proofs.Common.{length}
use Rattle.bf_waiting.specs.Classes.{IsRoomy}
use Rattle.bf_waiting.specs.inner.Classes.{AreReleased}
use Rattle.bf_waiting.proofs.class.batch_due_delays.Given as goal

abbrev pub invariant-loop-delay : goal.invariant-loop-delay
invariant-loop-delay l = record {
  roomy : IsRoomy l.batches l.delays;
  released : AreReleased l.now l.weights l.initial.batches.items l.initial.delays.items l.batches.items l.delays.items;
}

abbrev pub decreases-loop-delay : goal.decreases-loop-delay
decreases-loop-delay l = length l.delays.items
