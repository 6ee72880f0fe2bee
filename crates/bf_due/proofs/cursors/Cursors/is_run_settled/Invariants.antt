use Rattle.std.proofs.Common.{◌≡◌}
use Rattle.bf_due.specs.Cursors.{IsNoted}
use Rattle.bf_due.proofs.cursors.Cursors.is_run_settled.Given as goal

abbrev pub invariant-loop-task : goal.invariant-loop-task
invariant-loop-task l = record {
  reached : IsNoted l.core l.run l.initial.self → IsNoted l.core l.run l.self;
  next : l.self.settled ≡ l.task;
}
