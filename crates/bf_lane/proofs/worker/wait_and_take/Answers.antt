use Rattle.std.proofs.Common.{rules, ap, ◌∙◌}
use Rattle.bf_lane.proofs.Relays.{gets}
use Rattle.bf_lane.proofs.worker.wait_and_take.Goals as goal

pub try_pop_as-requires-clause-rule : goal.try_pop_as-requires-clause-rule
try_pop_as-requires-clause-rule g c = gets _ _ (ap (λ v. v.takes) c.loop.invariant.4 ∙ c.requires.takes)
