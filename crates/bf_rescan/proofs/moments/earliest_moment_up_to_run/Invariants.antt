use Rattle.bf_rescan.specs.inner.Looks.{IsSoonest, IsTryBefore}
use Rattle.bf_rescan.proofs.moments.earliest_moment_up_to_run.Given as goal

abbrev pub invariant-loop-task : goal.invariant-loop-task
invariant-loop-task l = IsSoonest l.core (IsTryBefore l.run l.task) l.soonest
