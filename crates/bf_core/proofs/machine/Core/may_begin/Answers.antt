use Rattle.bf_core.specs.Terms.{Phase}
use Rattle.bf_core.proofs.Kept.{replay_rows}
use Rattle.bf_core.proofs.Enabling.{present_there}
use Rattle.bf_core.proofs.machine.Core.may_begin.Goals as goal

pub has_room-requires : goal.has_room-requires
has_room-requires c =
    let waits : _ = rw c.dag.ensures.dag at c.in-Some.ensures.present in
    rw (← c.self.view_is) (present_there c.self.inside.plan.now.dag c.self.inside.state (replay_rows _ c.self.invariant.replayed) c.args.name Phase.Waiting waits).1
