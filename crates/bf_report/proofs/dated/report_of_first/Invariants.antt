use Rattle.std.proofs.Common.{◌≡◌, [], take}
use Rattle.std.specs.List.{filter_map}
use Rattle.bf_report.specs.Dated.{reported_instance}
use Rattle.bf_report.proofs.dated.report_of_first.Given as goal

abbrev pub invariant-loop-instance : goal.invariant-loop-instance
invariant-loop-instance l = [] ≡ filter_map (reported_instance l.dag l.task) (take l.instance-index l.instances)
