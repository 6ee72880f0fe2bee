use Rattle.std.proofs.Common.{ℕ, ◌<◌}
use Rattle.bf_core.specs.declared.event.Event.{Event}
use Rattle.bf_core.specs.Cores.{MayCome}
use Rattle.bf_rescan.proofs.steps.first_closable_run.Given as goal

abbrev pub invariant-loop-run : goal.invariant-loop-run
invariant-loop-run l = (j : ℕ) → j < l.run → ¬ (MayCome l.core (Event.Close j))
