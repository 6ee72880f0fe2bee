use Rattle.std.proofs.Common.{◌≡◌, refl, ◌∙◌, w64, to_z, of_z}
use Rattle.std.proofs.lemmas.Int.{to_z-of_z}
use Rattle.bf_core.specs.Terms.{Event}
use Rattle.bf_core.specs.Events.{after}
use Rattle.bf_core.proofs.Kept.{core_moved, moved_is}
use Rattle.bf_core.proofs.machine.Core.tick.Goals as goal

pub invariant_of-self-2 : goal.invariant_of-self-2
unfolding after
invariant_of-self-2 c =
    let is : _ = c.self.invariant in
    let moment : to_z w64 (of_z w64 c.args.moment) ≡ c.args.moment = to_z-of_z w64 c.args.moment c.ranges.moment in
    let timely : _ = rw moment at (c.may_come_to.ensures.0 c.if-not-may_come_to.false) in
    core_moved _ c.self.inside.pools (Event.Tick c.args.moment) c.self.inside.state _ c.push_reserved.new.self.items c.self.inside.pools _ is (tt, timely)
    refl
    (λ i. record { time = moment i; moments = c.self.inside.clock.moments })
    (c.push_reserved.ensures.items ∙ rw (c.in_ok-reserve.ensures.items, moment) refl)
    refl
    is.held
    refl
    refl

pub returns-clause-ok : goal.returns-clause-ok
unfolding after
returns-clause-ok c =
    let moment : to_z w64 (of_z w64 c.args.moment) ≡ c.args.moment = to_z-of_z w64 c.args.moment c.ranges.moment in
    let timely : _ = rw moment at (c.may_come_to.ensures.0 c.if-not-may_come_to.false) in
    rw (← c.self.view_is) ((tt, timely), moved_is (record { dag = c.self.inside.plan.now.dag; limits = c.self.inside.plan.now.limits; runs = c.self.inside.runs; state = c.self.inside.state; clock = c.self.inside.clock; journal = c.self.inside.journal.items }) (Event.Tick c.args.moment) _ _ _ refl (λ i. record { time = moment i; moments = c.self.inside.clock.moments }) (c.push_reserved.ensures.items ∙ rw (c.in_ok-reserve.ensures.items, moment) refl))
