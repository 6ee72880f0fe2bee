use Rattle.std.proofs.Common.{ℕ, ◌<◌, ◌≤◌}
use Rattle.bf_waiting.specs.Standings.{IsReadyAt}
use Rattle.bf_waiting.proofs.class.first_ready.Given as goal

abbrev pub invariant-loop-place : goal.invariant-loop-place
invariant-loop-place l = (j : ℕ) → l.batch.first.0 ≤ j → j < l.place → ¬ (IsReadyAt l.core l.batch.run.0 l.batch.task.0 j)
