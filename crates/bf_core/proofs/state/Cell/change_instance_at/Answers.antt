use Rattle.std.proofs.Common.{ap, IsSome}
use Rattle.bf_core.specs.Terms.{Cell}
use Rattle.bf_core.specs.Events.{instance_of}
use Rattle.bf_core.specs.inner.Tries.{changed}
use Rattle.bf_core.proofs.Placing.{changed_set, some_below}
use Rattle.bf_core.proofs.state.Cell.change_instance_at.Goals as goal

pub returns-in-Ran : goal.returns-in-Ran
returns-in-Ran c =
    let there : IsSome (instance_of (Cell.Ran c.in-Ran.instances) c.args.place) = rw c.in-Ran.is at c.requires.there in
    rw c.in-Ran.is (rw (← c.instances.view_is) (ap Cell.Ran
    (changed_set (changed c.args.change) _ c.args.place c.index_mut-instance.result.now _ (some_below _ c.args.place (rw (← c.instances.view_is) at there)) c.index_mut-instance.ensures.value c.change.ensures)))
