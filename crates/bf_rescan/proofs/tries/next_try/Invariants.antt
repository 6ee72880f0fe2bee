use Rattle.bf_rescan.specs.inner.Looks.{IsBest, IsTryBefore}
use Rattle.bf_rescan.proofs.tries.next_try.Given as goal

abbrev pub invariant-loop-run : goal.invariant-loop-run
invariant-loop-run l = IsBest l.core (IsTryBefore l.run 0) l.best
