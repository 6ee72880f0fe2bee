use Rattle.std.proofs.Common.{◌≡◌, map}
use Rattle.bf_core.specs.Events.{fresh}
use Rattle.bf_core.proofs.decision.fresh_instances.Given as goal

abbrev pub invariant-loop-given : goal.invariant-loop-given
invariant-loop-given l = l.instances.items ≡ map fresh l.yielded
