use Rattle.std.proofs.Common.{◌≡◌, map, take}
use Rattle.bf_marks.specs.Tallies.{instance_tally, sum}
use Rattle.bf_marks.proofs.tally.tally_of_instances.Given as goal

abbrev pub invariant-loop-instance : goal.invariant-loop-instance
invariant-loop-instance l = l.tally ≡ sum (map instance_tally (take l.instance-index l.instances))
