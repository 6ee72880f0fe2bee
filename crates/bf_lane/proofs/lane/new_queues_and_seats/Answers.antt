use Rattle.std.proofs.Common.{rules}
use Rattle.bf_lane.proofs.Relays.{begins, forks}
use Rattle.bf_lane.proofs.lane.new_queues_and_seats.Goals as goal

pub ruled-requires-clause-rule : goal.ruled-requires-clause-rule
ruled-requires-clause-rule g c = begins

pub another-takes-requires-clause-rule : goal.another-takes-requires-clause-rule
another-takes-requires-clause-rule g c = forks _ _ (search rules) (search rules)

pub ruled-requires-2-clause-rule : goal.ruled-requires-2-clause-rule
ruled-requires-2-clause-rule g c = begins

pub another-gathers-requires-clause-rule : goal.another-gathers-requires-clause-rule
another-gathers-requires-clause-rule g c = forks _ _ (search rules) (search rules)
