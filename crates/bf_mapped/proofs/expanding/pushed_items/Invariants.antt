use Rattle.std.proofs.Common.{◌≡◌}
use Rattle.std.specs.List.{filter_map}
use Rattle.bf_mapped.proofs.expanding.pushed_items.Given as goal

-- what the values before pushed
abbrev pub invariant-loop-value : goal.invariant-loop-value
invariant-loop-value l = l.items.items ≡ filter_map (λ v. v) l.yielded
