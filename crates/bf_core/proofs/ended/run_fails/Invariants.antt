use Rattle.std.proofs.Common.{◌≡◌, false, slice_index_or}
use Rattle.bf_core.specs.Terms.{Cell}
use Rattle.bf_core.specs.Recursion.{any_below, fails_run, is_leaf_in}
use Rattle.bf_core.specs.Events.{value_in}
use Rattle.bf_core.specs.inner.Events.{value_or_blocked}
use Rattle.bf_core.proofs.ended.run_fails.Given as goal

abbrev pub invariant-loop-task : goal.invariant-loop-task
invariant-loop-task l = any_below l.task (λ t. fails_run (is_leaf_in l.plan.dag t) (value_or_blocked (value_in (slice_index_or l.cells t Cell.Undecided)))) ≡ false
