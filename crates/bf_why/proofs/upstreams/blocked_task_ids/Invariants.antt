use Rattle.std.proofs.Common.{◌≡◌, if◌then◌else◌, [], ◌∷◌, take}
use Rattle.std.specs.List.{flat_map}
use Rattle.bf_core.specs.Deciding.{is_blocked_in}
use Rattle.bf_reason.specs.Settled.{value_among}
use Rattle.bf_why.specs.Decided.{id_of}
use Rattle.bf_why.proofs.upstreams.blocked_task_ids.Given as goal

abbrev pub invariant-loop-upstream : goal.invariant-loop-upstream
invariant-loop-upstream l = l.ids.items ≡ flat_map (λ u. if is_blocked_in (value_among l.settled u) then id_of l.plan.dag u ∷ [] else []) (take l.upstream-index l.upstreams)
