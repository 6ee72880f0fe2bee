use Rattle.std.proofs.Common.{◌≡◌, take}
use Rattle.std.specs.List.{filter_map}
use Rattle.bf_core.specs.inner.Words.{pushed_by_one}
use Rattle.bf_core.proofs.pulls.pushed_by_all.Given as goal

-- what the instances before pushed
abbrev pub invariant-loop-instance : goal.invariant-loop-instance
invariant-loop-instance l = l.values.items ≡ filter_map pushed_by_one (take l.instance-index l.instances)
