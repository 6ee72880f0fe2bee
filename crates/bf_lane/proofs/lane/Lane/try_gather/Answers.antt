use Rattle.std.proofs.Common.{ap}
use Rattle.bf_lane.proofs.Relays.{gets}
use Rattle.bf_lane.proofs.lane.Lane.try_gather.Goals as goal

pub try_pop_as-requires-clause-rule : goal.try_pop_as-requires-clause-rule
try_pop_as-requires-clause-rule g c = gets _ _ (ap (λ v. v.takes) c.self.invariant.gathers_are)
