use Rattle.std.proofs.Common.{◌≡◌, ◌≤◌}
use Rattle.bf_commands.specs.Planned.{begins_task_in, counted}
use Rattle.bf_commands.proofs.clear_plan.count_tasks.Given as goal

abbrev pub invariant-loop-place : goal.invariant-loop-place
invariant-loop-place l = (l.count ≡ counted (begins_task_in l.places) l.place) × (l.count ≤ l.place)
