use Rattle.bf_rescan.specs.inner.Looks.{IsSoonest}
use Rattle.bf_rescan.proofs.Present.{IsTryBelow}
use Rattle.bf_rescan.proofs.moments.earliest_moment_of_task.Given as goal

abbrev pub invariant-loop-place : goal.invariant-loop-place
invariant-loop-place l = IsSoonest l.core (IsTryBelow l.core.dag l.run l.task l.place) l.soonest
