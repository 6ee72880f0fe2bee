use Rattle.std.proofs.Common.{◌≡◌}
use Rattle.bf_dependents.specs.Listing.{up_to}
use Rattle.bf_clear.specs.inner.Failing.{failed_of_run}
use Rattle.bf_clear.proofs.failing.failed_in.Given as goal

abbrev pub invariant-loop-run : goal.invariant-loop-run
invariant-loop-run l = l.found.items ≡ up_to (failed_of_run l.report l.tasks) l.run
