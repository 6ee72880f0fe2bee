use Rattle.std.proofs.Common.{◌≡◌, ◌++◌}
use Rattle.bf_dependents.specs.Listing.{up_to}
use Rattle.bf_clear.specs.inner.Failing.{failed_of_task_in}
use Rattle.bf_clear.proofs.failing.add_failed_of_run.Given as goal

abbrev pub invariant-loop-task : goal.invariant-loop-task
invariant-loop-task l = l.found.items ≡ l.fn.found.items ++ up_to (failed_of_task_in l.report l.run) l.task
