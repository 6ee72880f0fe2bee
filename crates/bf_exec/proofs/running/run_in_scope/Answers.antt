use Rattle.std.proofs.Common.{subst}
use Rattle.bf_exec.specs.inner.Turns.{IsLeftBy}
use Rattle.bf_exec.proofs.Closing.{no_stranger}
use Rattle.bf_exec.proofs.running.run_in_scope.Goals as goal

pub fault_of-requires : goal.fault_of-requires
fault_of-requires g c is =
    let next = c.drive-ended.new.executor in
    let left : IsLeftBy next c.in-Err.halt = rw c.in-Err.is at c.drive-ended.ensures.left in
    let stranger = subst (IsLeftBy next) is left in
    no_stranger g.K.Service.answers g.K.Service.gives_up stranger.0 next c.close.result.items c.close.ensures stranger.1
