use Rattle.std.proofs.Common.{◌≡◌}
use Rattle.bf_core.specs.Events.{empty_runs_of}
use Rattle.bf_core.proofs.state.unopened_runs.Given as goal

abbrev pub invariant-loop-run : goal.invariant-loop-run
invariant-loop-run l = l.made.items ≡ empty_runs_of l.tasks l._run
