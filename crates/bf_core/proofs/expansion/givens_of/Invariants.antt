use Rattle.std.proofs.Common.{◌≡◌, map}
use Rattle.bf_core.proofs.Fitting.{with_item}
use Rattle.bf_core.proofs.expansion.givens_of.Given as goal

-- what the instances of the items before are given
abbrev pub invariant-loop-item : goal.invariant-loop-item
invariant-loop-item l = l.givens.items ≡ map (with_item l.alike.pulled) l.yielded
