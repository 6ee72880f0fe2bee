use Rattle.std.proofs.Common.{ℕ, ◌<◌}
use Rattle.bf_core.specs.Cores.{MayCome, deciding}
use Rattle.bf_rescan.proofs.steps.first_decidable_run_and_task.Given as goal

abbrev pub invariant-loop-run : goal.invariant-loop-run
invariant-loop-run l = (j u : ℕ) → j < l.run → ¬ (MayCome l.core (deciding l.expands j u))
