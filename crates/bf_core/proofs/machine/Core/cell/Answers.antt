use Rattle.bf_core.proofs.Kept.{replay_rows, replay_invariant}
use Rattle.bf_core.proofs.Known.{row_there, there_row}
use Rattle.bf_core.proofs.machine.Core.cell.Goals as goal

pub returns-clause-there : goal.returns-clause-there
returns-clause-there c =
    let rows : _ = replay_rows _ c.self.invariant.replayed in
    rw (← c.self.view_is) (
      λ some. row_there c.self.inside.plan.now.dag c.self.inside.state rows c.args.run c.args.task (c.cell.ensures.there.0 some),
      λ there. c.cell.ensures.there.1 (there_row c.self.inside.plan.now.dag c.self.inside.state rows c.args.run c.args.task there),
    )

pub returns-clause-agrees : goal.returns-clause-agrees
returns-clause-agrees c = rw (← c.self.view_is) (replay_invariant _ c.self.invariant.replayed).agrees
