use Rattle.std.proofs.Common.{ℕ, ◌<◌, get_or}
use Rattle.bf_core.specs.Cores.{MayCome, deciding}
use Rattle.bf_rescan.proofs.steps.first_decidable_task.Given as goal

abbrev pub invariant-loop-task : goal.invariant-loop-task
invariant-loop-task l = (i : ℕ) → i < l.task-index → ¬ (MayCome l.core (deciding l.expands l.run (get_or l.order i 0)))
