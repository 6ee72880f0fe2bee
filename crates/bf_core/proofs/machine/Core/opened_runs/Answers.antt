use Rattle.std.proofs.Common.{arith}
use Rattle.bf_core.proofs.Kept.{replay_shaped}
use Rattle.bf_core.proofs.NextRun.{next_within}
use Rattle.bf_core.proofs.machine.Core.opened_runs.Goals as goal

pub returns-clause-within : goal.returns-clause-within
returns-clause-within c = rw (← c.self.view_is) (omega (arith, c.self.invariant.opened_are, next_within c.self.inside.state))

pub returns-clause-few : goal.returns-clause-few
returns-clause-few c = omega (arith, c.self.invariant.opened_are, next_within c.self.inside.state, (replay_shaped _ c.self.invariant.replayed).count, c.self.invariant.few_runs)
