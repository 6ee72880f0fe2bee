use Rattle.std.proofs.Common.{◌≡◌, map, take}
use Rattle.bf_roots.specs.Onward.{step_by}
use Rattle.bf_roots.proofs.onward.steps_to.Given as goal

abbrev pub invariant-loop-task : goal.invariant-loop-task
invariant-loop-task l = l.steps.items ≡ map (step_by l.fn.run l.fn.cause) (take l.task-index l.tasks)
