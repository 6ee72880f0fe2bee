use Rattle.std.proofs.Common.{length}
use Rattle.std.specs.FinMap as map
use Rattle.bf_journal.specs.inner.Found.{AreOfTasks}
use Rattle.bf_journal.proofs.Lasting.{IsLeft}
use Rattle.bf_journal.proofs.last.last_of.Given as goal

abbrev pub invariant-loop-name : goal.invariant-loop-name
invariant-loop-name l = record { of_tasks : AreOfTasks l.plan.dag l.tries.items; left : IsLeft l.plan.dag l.fn.tries.items l.tries.items (map.get l.ledger) }

abbrev pub decreases-loop-name : goal.decreases-loop-name
decreases-loop-name l = length l.tries.items
