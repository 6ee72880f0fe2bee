use Rattle.std.proofs.Common.{◌≡◌, max, fold, length, take}
use Rattle.bf_why.specs.Decided.{id_of}
use Rattle.bf_explain.proofs.beside.id_width.Given as goal

abbrev pub invariant-loop-task : goal.invariant-loop-task
invariant-loop-task l = l.width ≡ fold (λ width task. max width (length (id_of l.plan.dag task))) 0 (take l.task-index l.tasks)
