use Rattle.std.proofs.Common.{rules, ap, ◌∙◌}
use Rattle.bf_lane.proofs.Relays.{sends}
use Rattle.bf_lane.proofs.worker.wait_and_put.Goals as goal

pub try_push_as-requires-clause-rule : goal.try_push_as-requires-clause-rule
try_push_as-requires-clause-rule g c = sends _ _ _ _ (ap (λ v. v.puts) c.loop.invariant.4 ∙ c.requires.puts)
