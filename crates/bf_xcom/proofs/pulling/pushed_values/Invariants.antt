use Rattle.std.proofs.Common.{◌≡◌, take}
use Rattle.bf_xcom.specs.Pulls.{pushed_values_in}
use Rattle.bf_xcom.proofs.pulling.pushed_values.Given as goal

-- what the instances before pushed
abbrev pub invariant-loop-instance : goal.invariant-loop-instance
invariant-loop-instance l = l.values.items ≡ pushed_values_in (take l.instance-index l.instances)
