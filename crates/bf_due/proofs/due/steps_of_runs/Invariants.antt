use Rattle.std.proofs.Common.{[]}
use Rattle.bf_due.specs.Dues.{HasAdded}
use Rattle.bf_due.specs.inner.Dues.{IsOfRunBelow}
use Rattle.bf_due.proofs.due.steps_of_runs.Given as goal

abbrev pub invariant-loop-run : goal.invariant-loop-run
invariant-loop-run l = HasAdded l.core (IsOfRunBelow l.run) [] l.agenda.items
