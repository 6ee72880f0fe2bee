use Rattle.std.proofs.Common.{true≢false, sym, ◌∙◌}
use Rattle.bf_core.specs.Terms.{Phase}
use Rattle.bf_core.proofs.Kept.{replay_rows}
use Rattle.bf_core.proofs.Enabling.{present_known, present_there}
use Rattle.bf_core.proofs.machine.Core.waiting_demand.Goals as goal

pub require_unfinished_instance-requires : goal.require_unfinished_instance-requires
require_unfinished_instance-requires c = rw c.dag.ensures.dag (replay_rows _ c.self.invariant.replayed)

pub demand-requires : goal.demand-requires
demand-requires c =
    let present : _ = rw c.dag.ensures.dag at c.in_ok-require_unfinished_instance.ensures.ok in
    (present_there c.self.inside.plan.now.dag c.self.inside.state (replay_rows _ c.self.invariant.replayed) c.args.name Phase.Waiting present).1

pub returns-clause-ok : goal.returns-clause-ok
returns-clause-ok c =
    let present : _ = rw c.dag.ensures.dag at c.in_ok-require_unfinished_instance.ensures.ok in
    rw (← c.self.view_is) (record {
      present = present;
      timely = c.lets_begin.ensures.0 c.if-not-lets_begin.false;
      demand_is = c.demand.ensures.demand;
      pool_there = c.demand.ensures.pool;
    })

pub returns-then-not-lets_begin-clause-err : goal.returns-then-not-lets_begin-clause-err
returns-then-not-lets_begin-clause-err c =
    let present : _ = rw c.dag.ensures.dag at c.in_ok-require_unfinished_instance.ensures.ok in
    rw (← c.self.view_is) (present_known _ c.self.invariant.replayed c.args.name Phase.Waiting present, λ able. true≢false (sym (c.lets_begin.ensures.1 able.1) ∙ c.if-not-lets_begin.true))
