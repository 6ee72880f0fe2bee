use Rattle.std.proofs.Common.{◌≡◌}
use Rattle.bf_waiting.specs.inner.Filling.{Before}
use Rattle.bf_waiting.specs.inner.Keeping.{HasDelayed}
use Rattle.bf_waiting.proofs.class.SlotClass.delay_all.Given as goal

abbrev pub invariant-loop-place : goal.invariant-loop-place
invariant-loop-place l = record {
  task : l.self.task ≡ l.initial.self.task;
  batches : l.self.batches.items ≡ l.initial.self.batches.items;
  delayed : HasDelayed l.core l.run l.task (Before l.place) l.initial.self.delays.items l.self.delays.items;
}
