use Rattle.std.proofs.Common.{◌≡◌, map, take}
use Rattle.bf_report.specs.declared.report.InstanceReport.{InstanceReport}
use Rattle.bf_clear.proofs.given.results_of.Given as goal

abbrev pub invariant-loop-instance : goal.invariant-loop-instance
invariant-loop-instance l = l.results.items ≡ map (λ (x : InstanceReport). x.result) (take l.instance-index l.instances)
