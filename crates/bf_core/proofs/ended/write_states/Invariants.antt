use Rattle.std.proofs.Common.{◌≡◌, ◌<◌, ℕ, length, Some, slice_get}
use Rattle.bf_core.specs.Recursion.{run_state_of}
use Rattle.bf_core.specs.inner.Checks.{row_value}
use Rattle.bf_core.proofs.ended.write_states.Given as goal

abbrev pub invariant-loop-run : goal.invariant-loop-run
invariant-loop-run l = record {
  room : length l.states.items ≡ length l.runs;
  written : (k : ℕ) → k < l.run → slice_get l.states.items k ≡ Some (run_state_of l.plan.dag (row_value l.runs k));
}
