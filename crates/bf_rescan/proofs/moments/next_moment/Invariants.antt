use Rattle.bf_rescan.specs.inner.Looks.{IsSoonest, IsTryBefore}
use Rattle.bf_rescan.proofs.moments.next_moment.Given as goal

abbrev pub invariant-loop-run : goal.invariant-loop-run
invariant-loop-run l = IsSoonest l.core (IsTryBefore l.run 0) l.soonest
