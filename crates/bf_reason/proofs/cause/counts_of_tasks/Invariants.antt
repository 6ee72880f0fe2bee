use Rattle.std.proofs.Common.{◌≡◌, ◌≤◌, ◌*◌, drop}
use Rattle.bf_rule.specs.Verdicts.{total_of, add}
use Rattle.bf_core.specs.Deciding.{counts_over}
use Rattle.bf_reason.specs.Settled.{seen_among}
use Rattle.bf_reason.proofs.cause.counts_of_tasks.Given as goal

abbrev pub invariant-loop-task : goal.invariant-loop-task
invariant-loop-task l = record {
  sum : add l.counts (counts_over (seen_among l.settled) (drop l.task-index l.tasks)) ≡ counts_over (seen_among l.settled) l.tasks;
  size : total_of l.counts ≤ 1_024 * l.task-index;
}
