use Rattle.std.proofs.Common.{◌≡◌, if◌then◌else◌, [], ◌∷◌, Some, take}
use Rattle.std.specs.List.{flat_map}
use Rattle.bf_core.specs.Deciding.{branch_is, is_blocked_in}
use Rattle.bf_reason.specs.Settled.{value_among}
use Rattle.bf_why.specs.Decided.{id_of}
use Rattle.bf_why.proofs.upstreams.blocked_branch_ids.Given as goal

abbrev pub invariant-loop-upstream : goal.invariant-loop-upstream
invariant-loop-upstream l = l.ids.items ≡ flat_map (λ u. if branch_is l.plan.dag is_blocked_in u (Some (value_among l.settled u)) then id_of l.plan.dag u ∷ [] else []) (take l.upstream-index l.upstreams)
