use Rattle.std.proofs.Common.{◌≡◌, true, false, sym, ap, ◌∙◌}
use Rattle.bf_core.specs.Terms.{Dag, Task, State, Phase, Given, Outcome, Entry, task_of}
use Rattle.bf_core.specs.Events.{cell_at, instance_of, given_in, given_of, place_in}
use Rattle.bf_core.proofs.Kept.{replay_rows}
use Rattle.bf_core.proofs.Enabling.{present_there, present_known}
use Rattle.bf_core.proofs.machine.Core.prepare_end.Goals as goal

abbrev the-entry : Given → Outcome → Entry
the-entry given outcome = record { given = given; outcome = outcome }

pub require_unfinished_instance-requires : goal.require_unfinished_instance-requires
require_unfinished_instance-requires c = rw c.dag.ensures.dag (replay_rows _ c.self.invariant.replayed)

pub fits-requires : goal.fits-requires
fits-requires c =
    let present : _ = rw c.dag.ensures.dag at c.in_ok-instance.ensures.ok in
    (present_there c.self.inside.plan.now.dag c.self.inside.state (replay_rows _ c.self.invariant.replayed) c.args.name Phase.Running present).1

pub returns-then-not-fits-clause-err : goal.returns-then-not-fits-clause-err
returns-then-not-fits-clause-err c =
    let present : _ = rw c.dag.ensures.dag at c.in_ok-instance.ensures.ok in
    rw (← c.self.view_is) (present_known _ c.self.invariant.replayed c.args.name Phase.Running present, λ able. let f : true ≡ false = sym able.0.1 ∙ sym c.fits.ensures ∙ c.if-not-fits.true in cc)

pub demand-requires : goal.demand-requires
demand-requires c =
    let present : _ = rw c.dag.ensures.dag at c.in_ok-instance.ensures.ok in
    (present_there c.self.inside.plan.now.dag c.self.inside.state (replay_rows _ c.self.invariant.replayed) c.args.name Phase.Running present).1

pub task-requires : goal.task-requires
task-requires c =
    let present : _ = rw c.dag.ensures.dag at c.in_ok-instance.ensures.ok in
    rw c.dag-2.ensures.dag (present_there c.self.inside.plan.now.dag c.self.inside.state (replay_rows _ c.self.invariant.replayed) c.args.name Phase.Running present).1

pub returns-clause-ok : goal.returns-clause-ok
returns-clause-ok c =
    let present : _ = rw c.dag.ensures.dag at c.in_ok-instance.ensures.ok in
    let dag : Dag = c.self.inside.plan.now.dag in
    let s : State = c.self.inside.state in
    let given : given_in (cell_at s c.args.name.run c.args.name.task) (place_in dag c.args.name) ≡ c.in_ok-instance.instance.now.given =
    ap given_of (ap (λ (d : Dag). instance_of (cell_at s c.args.name.run c.args.name.task) (place_in d c.args.name)) (sym c.dag.ensures.dag) ∙ c.in_ok-instance.ensures.held) in
    let entry = c.in_ok-entry.ensures.entry ∙ ap (λ (g : Given). the-entry g c.args.outcome.now) (sym given) in
    rw (← c.self.view_is) (record {
      able = (present, sym c.fits.ensures ∙ c.if-not-fits.false);
      entry_is = entry;
      kept_is = c.in_ok-entry.ensures.kept;
      demand_is = c.demand.ensures.demand;
      pool_there = c.demand.ensures.pool;
      retries_are = ap (λ (t : Task). t.retries) c.task.ensures ∙ ap (λ (d : Dag). (task_of d c.args.name.task).retries) c.dag-2.ensures.dag;
      place_is = c.place_of.ensures ∙ ap (λ (d : Dag). place_in d c.args.name) c.dag-3.ensures.dag;
      retry_is = rw (← c.self.view_is) at c.retry_of.ensures;
    })

pub retry_of-requires : goal.retry_of-requires
retry_of-requires c = rw (← c.self.view_is) (rw c.dag.ensures.dag at c.in_ok-instance.ensures.ok)
