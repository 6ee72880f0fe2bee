use Rattle.std.proofs.Common.{◌≡◌, ◌≤◌, ◌+◌, length}
use Rattle.bf_due.specs.inner.Dues.{Asks, IsOfFirst}
use Rattle.bf_due.specs.inner.Stirring.{is_settled}
use Rattle.bf_due.proofs.asking.add_decisions_by_news.Given as goal

abbrev pub invariant-loop-task : goal.invariant-loop-task
invariant-loop-task l = record {
  asks : l.settled ≡ is_settled l.core.state l.news.run l.news.task → Asks l.core l.news.run (IsOfFirst l.core.dag l.core.state l.news l.tasks l.task-index) l.initial.row l.row l.initial.agenda.items l.agenda.items;
  len : length l.agenda.items ≤ length l.initial.agenda.items + l.task-index;
  room : l.initial.agenda.room ≤ l.agenda.room;
}
