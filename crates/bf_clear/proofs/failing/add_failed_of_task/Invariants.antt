use Rattle.std.proofs.Common.{◌≡◌, ◌++◌, pos, negsuc}
use Rattle.bf_dependents.specs.Listing.{up_to}
use Rattle.bf_clear.specs.inner.Failing.{failed_at}
use Rattle.bf_clear.proofs.failing.add_failed_of_task.Given as goal

abbrev pub invariant-loop-place : goal.invariant-loop-place
invariant-loop-place l = l.found.items ≡ (l.fn.found.items ++ failed_at l.report l.run l.task (negsuc 0)) ++ up_to (λ i. failed_at l.report l.run l.task (pos i)) l.place
