use Rattle.std.proofs.Common.{◌≡◌, map, take}
use Rattle.bf_explain.proofs.by_hand.pulled_values.Given as goal

abbrev pub invariant-loop-pull : goal.invariant-loop-pull
invariant-loop-pull l = l.values.items ≡ map (λ pull. pull.value) (take l.pull-index l.pulls)
