use Rattle.std.proofs.Common.{◌≡◌, map, take}
use Rattle.bf_explain.specs.Beside.{task_line_of}
use Rattle.bf_explain.proofs.beside.task_lines.Given as goal

abbrev pub invariant-loop-task : goal.invariant-loop-task
invariant-loop-task l = l.lines.items ≡ map (task_line_of l.plan.dag l.settled l.width) (take l.task-index l.tasks)
