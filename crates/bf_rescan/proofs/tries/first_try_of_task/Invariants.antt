use Rattle.std.proofs.Common.{None}
use Rattle.bf_rescan.specs.inner.Looks.{IsBest}
use Rattle.bf_rescan.proofs.Present.{IsTryBelow}
use Rattle.bf_rescan.proofs.tries.first_try_of_task.Given as goal

abbrev pub invariant-loop-place : goal.invariant-loop-place
invariant-loop-place l = IsBest l.core (IsTryBelow l.core.dag l.run l.task l.place) None
