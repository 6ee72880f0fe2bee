use Rattle.bf_rescan.specs.inner.Looks.{IsBest, IsTryBefore}
use Rattle.bf_rescan.proofs.tries.best_try_up_to_run.Given as goal

abbrev pub invariant-loop-task : goal.invariant-loop-task
invariant-loop-task l = IsBest l.core (IsTryBefore l.run l.task) l.best
