use Rattle.std.proofs.Common.{◌≡◌, ◌&&◌, take}
use Rattle.bf_why.specs.Since.{failures, has_instance_of}
use Rattle.bf_explain.specs.Runs.{ids_of, is_last_in}
use Rattle.bf_explain.proofs.run_why.last_failed_ids.Given as goal

abbrev pub invariant-loop-task : goal.invariant-loop-task
invariant-loop-task l = l.ids.items ≡ ids_of l.plan.dag (λ task. is_last_in l.plan.dag task && has_instance_of l.settled failures task) (take l.task-index l.order)
