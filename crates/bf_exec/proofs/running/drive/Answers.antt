use Rattle.std.proofs.Common.{ap, ◌∙◌}
use Rattle.bf_sched.specs.Scheduling.{Schedule}
use Rattle.bf_sched.proofs.Driving.{ends_over, opening_idle}
use Rattle.bf_exec.proofs.Opening.{starts_in_step}
use Rattle.bf_exec.proofs.Shown.{all_shown}
use Rattle.bf_exec.proofs.running.drive.Goals as goal

pub new-requires-2 : goal.new-requires-2
new-requires-2 g c = opening_idle c.in_ok-core.core _ _ _ (c.in_ok-core.ensures {u = tt})

pub all_turns-requires-clause-in_step : goal.all_turns-requires-clause-in_step
all_turns-requires-clause-in_step g c κs within =
    starts_in_step c.args.executor.now c.in_ok-core.core c.args.order.now.plan.now.dag c.args.order.now.plan.now.limits _ c.args.order.now.workers c.in_ok-scheduler.scheduler c.dag-sound.ensures.sound c.limits-fit.ensures.fit
    (c.in_ok-core.ensures {u = tt}) (c.in_ok-scheduler.ensures {u = tt}) c.requires.unused c.requires.lanes

pub returns-clause-over : goal.returns-clause-over
returns-clause-over g c =
    ends_over g.K.Service.answers c.in_ok-core.core c.args.order.now.plan.now.dag c.args.order.now.plan.now.limits _ c.args.order.now.workers c.in_ok-scheduler.scheduler c.all_turns.new.scheduler c.in-Ok.ended c.dag-sound.ensures.sound c.limits-fit.ensures.fit
    (c.in_ok-core.ensures {u = tt}) (c.in_ok-scheduler.ensures {u = tt}) c.in_ok-all_turns.ensures.driven c.in-Ok.ensures.ok

pub returns-clause-shown : goal.returns-clause-shown
returns-clause-shown g c =
    all_shown g.O.Observer.shows c.args.watch.now.observer c.all_turns.new.watch.observer c.in_ok-scheduler.scheduler.backfill c.all_turns.new.scheduler.backfill c.args.order.now.plan.now.dag c.args.order.now.plan.now.limits _ c.in-Ok.ended
    (ap (λ (s : Schedule). s.backfill) (c.in_ok-scheduler.ensures {u = tt}) ∙ c.in_ok-core.ensures {u = tt}) c.in_ok-all_turns.ensures.shown c.in-Ok.ensures.ok
