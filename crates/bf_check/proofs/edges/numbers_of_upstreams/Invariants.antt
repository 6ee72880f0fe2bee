use Rattle.std.proofs.Common.{◌≡◌, map, option_map, take}
use Rattle.bf_check.specs.inner.Looks.{numbers_in}
use Rattle.bf_check.proofs.edges.numbers_of_upstreams.Given as goal

abbrev pub invariant-loop-task : goal.invariant-loop-task
invariant-loop-task l = map (option_map (λ v. v.items)) l.found.items ≡ map (λ task. numbers_in l.ids task.upstreams) (take l.task-index l.tasks)
