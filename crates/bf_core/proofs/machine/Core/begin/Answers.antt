use Rattle.std.proofs.Common.{refl, ap, ◌∙◌}
use Rattle.bf_core.specs.Terms.{Dag, Event, Phase}
use Rattle.bf_core.specs.Events.{place_in}
use Rattle.bf_core.proofs.Kept.{core_moved, moved_is, replay_rows}
use Rattle.bf_core.proofs.Timing.{forgets}
use Rattle.bf_core.proofs.Moving.{may_begin, begun_state, begun_slots}
use Rattle.bf_core.proofs.Enabling.{present_there, present_cell}
use Rattle.bf_core.proofs.machine.Core.begin.Goals as goal

pub change_instance_at-requires-clause-run : goal.change_instance_at-requires-clause-run
change_instance_at-requires-clause-run c =
    let is : _ = rw (← c.self.view_is) at c.in_ok-demand.ensures.ok in
    (present_there c.self.inside.plan.now.dag c.self.inside.state (replay_rows _ c.self.invariant.replayed) c.args.name Phase.Waiting is.present).0

pub change_instance_at-requires-clause-task : goal.change_instance_at-requires-clause-task
change_instance_at-requires-clause-task c =
    let is : _ = rw (← c.self.view_is) at c.in_ok-demand.ensures.ok in
    present_cell c.self.inside.plan.now.dag c.self.inside.state (replay_rows _ c.self.invariant.replayed) c.args.name Phase.Waiting is.present

pub invariant_of-self-in-Ok : goal.invariant_of-self-in-Ok
invariant_of-self-in-Ok c =
    let is : _ = rw (← c.self.view_is) at c.in_ok-demand.ensures.ok in
    core_moved _ c.self.inside.pools (Event.Begin c.args.name) c.change_instance_at.new.self _ c.push_reserved.new.self.items c.take.new.self _ c.self.invariant
    (may_begin _ _ _ _ _ c.self.invariant c.args.name _ is (c.in-Ok.ensures.fits.0 refl))
    (c.change_instance_at.ensures ∙ begun_state _ _ _ _ _ c.self.invariant c.args.name _ is _ (c.place_of-place.ensures ∙ ap (λ (d : Dag). place_in d c.args.name) c.dag.ensures.dag))
    (forgets c.self.inside.clock c.args.name c.forget.new.self c.forget.ensures)
    (c.push_reserved.ensures.items ∙ rw c.in_ok-reserve.ensures.items)
    c.in-Ok.ensures.ok.sizes
    (begun_slots _ _ _ _ _ c.self.invariant c.args.name _ is c.take.new.self c.in-Ok.ensures.ok)
    refl
    refl

pub returns-in-Ok-clause-ok : goal.returns-in-Ok-clause-ok
returns-in-Ok-clause-ok c =
    let is : _ = rw (← c.self.view_is) at c.in_ok-demand.ensures.ok in
    rw (← c.self.view_is) (
      may_begin _ _ _ _ _ c.self.invariant c.args.name _ is (c.in-Ok.ensures.fits.0 refl),
      moved_is _ (Event.Begin c.args.name) _ _ _
          (c.change_instance_at.ensures ∙ begun_state _ _ _ _ _ c.self.invariant c.args.name _ is _ (c.place_of-place.ensures ∙ ap (λ (d : Dag). place_in d c.args.name) c.dag.ensures.dag))
          (forgets c.self.inside.clock c.args.name c.forget.new.self c.forget.ensures)
          (c.push_reserved.ensures.items ∙ rw c.in_ok-reserve.ensures.items),
    )
