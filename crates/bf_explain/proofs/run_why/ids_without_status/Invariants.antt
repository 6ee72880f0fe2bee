use Rattle.std.proofs.Common.{◌≡◌, take}
use Rattle.bf_core.specs.Deciding.{is_blocked_in}
use Rattle.bf_reason.specs.Settled.{value_among}
use Rattle.bf_explain.specs.Runs.{ids_of}
use Rattle.bf_explain.proofs.run_why.ids_without_status.Given as goal

abbrev pub invariant-loop-task : goal.invariant-loop-task
invariant-loop-task l = l.ids.items ≡ ids_of l.plan.dag (λ task. is_blocked_in (value_among l.settled task)) (take l.task-index l.order)
