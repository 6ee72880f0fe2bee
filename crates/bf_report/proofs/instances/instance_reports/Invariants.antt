use Rattle.std.proofs.Common.{◌≡◌, take}
use Rattle.std.specs.List.{filter_map}
use Rattle.bf_report.specs.Dated.{reported_instance}
use Rattle.bf_report.specs.Values.{AreSoundInstances}
use Rattle.bf_report.proofs.instances.instance_reports.Given as goal

abbrev pub invariant-loop-instance : goal.invariant-loop-instance
invariant-loop-instance l = record {
  reports : l.found.items ≡ filter_map (reported_instance l.dag l.task) (take l.instance-index l.instances);
  sound : AreSoundInstances l.found.items;
}
