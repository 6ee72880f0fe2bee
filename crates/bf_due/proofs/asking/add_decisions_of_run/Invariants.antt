use Rattle.std.proofs.Common.{◌≤◌, ◌+◌, length}
use Rattle.bf_due.specs.inner.Dues.{Asks, IsBelow}
use Rattle.bf_due.proofs.asking.add_decisions_of_run.Given as goal

abbrev pub invariant-loop-task : goal.invariant-loop-task
invariant-loop-task l = record {
  asks : Asks l.core l.run (IsBelow l.run l.task) l.initial.row l.row l.initial.agenda.items l.agenda.items;
  len : length l.agenda.items ≤ length l.initial.agenda.items + l.task;
  room : l.initial.agenda.room ≤ l.agenda.room;
}
