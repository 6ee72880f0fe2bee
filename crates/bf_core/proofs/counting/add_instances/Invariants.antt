use Rattle.std.proofs.Common.{◌≡◌, ◌+◌, drop}
use Rattle.bf_rule.specs.Verdicts.{total_of, add}
use Rattle.bf_core.specs.Events.{counts_of_instances}
use Rattle.bf_core.proofs.counting.add_instances.Given as goal

abbrev pub invariant-loop-instance : goal.invariant-loop-instance
invariant-loop-instance l = record {
  sum : add l.counts (counts_of_instances (drop l.instance-index l.instances)) ≡ add l.fn.counts (counts_of_instances l.instances);
  size : total_of l.counts ≡ total_of l.fn.counts + l.instance-index;
}
