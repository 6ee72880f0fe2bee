use Rattle.std.proofs.Common.{◌≡◌, map, take}
use Rattle.bf_core.specs.inner.Words.{pushed_by_one}
use Rattle.bf_core.proofs.expansion.pushed_by_each.Given as goal

-- what the instances before pushed
abbrev pub invariant-loop-instance : goal.invariant-loop-instance
invariant-loop-instance l = l.values.items ≡ map pushed_by_one (take l.instance-index l.instances)
