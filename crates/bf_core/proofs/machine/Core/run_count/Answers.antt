use Rattle.std.proofs.Common.{sym}
use Rattle.bf_core.proofs.Kept.{replay_shaped}
use Rattle.bf_core.proofs.machine.Core.run_count.Goals as goal

pub returns-clause-runs : goal.returns-clause-runs
returns-clause-runs c = rw (← c.self.view_is) (sym (replay_shaped _ c.self.invariant.replayed).count)
