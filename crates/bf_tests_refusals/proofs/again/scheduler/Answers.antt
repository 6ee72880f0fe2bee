use Rattle.bf_sched.proofs.Driving.{opening_idle}
use Rattle.bf_tests_refusals.proofs.again.scheduler.Goals as goal

pub new-requires-2 : goal.new-requires-2
new-requires-2 c = opening_idle c.in_ok-core.core _ _ _ (c.in_ok-core.ensures {u = tt})
