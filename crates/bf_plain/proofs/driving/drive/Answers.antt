use Rattle.std.proofs.Common.{ℕ, ap, ◌∙◌, length, subst}
use Rattle.bf_core.specs.Driven.{IsDriven}
use Rattle.bf_core.specs.inner.Driven.{IsOver}
use Rattle.bf_core.specs.Running.{running_now}
use Rattle.bf_sched.specs.Scheduling.{Schedule}
use Rattle.bf_sched.proofs.Driving.{driven_first, ends_over, opening_idle}
use Rattle.bf_plain.proofs.Ticking.{ends_so}
use Rattle.bf_plain.proofs.driving.drive.Goals as goal

pub new-requires-2 : goal.new-requires-2
new-requires-2 g c = opening_idle c.in_ok-core.core _ _ _ (c.in_ok-core.ensures {u = tt})

pub all_turns-requires : goal.all_turns-requires
all_turns-requires g c = ap (λ (s : Schedule). running_now s.backfill.state) (c.in_ok-scheduler.ensures {u = tt}) ∙ opening_idle c.in_ok-core.core _ _ _ (c.in_ok-core.ensures {u = tt})

pub returns-clause-over : goal.returns-clause-over
returns-clause-over g c =
    let over = ends_over (g.R.TaskRunner.may_answer c.args.runner.now) c.in_ok-core.core c.args.plan.now.dag c.args.plan.now.limits _ c.one.result c.in_ok-scheduler.scheduler c.all_turns.new.scheduler c.in-Ok.ended c.dag-sound.ensures.sound c.limits-fit.ensures.fit
    (c.in_ok-core.ensures {u = tt}) (c.in_ok-scheduler.ensures {u = tt}) c.in_ok-all_turns.ensures.driven c.in-Ok.ensures.ok in
    subst (λ (w : ℕ). IsOver (g.R.TaskRunner.may_answer c.args.runner.now) c.args.plan.now.dag c.args.plan.now.limits (g.N.RunCount.runs c.args.runs.now) w c.in-Ok.ended) c.one.ensures over

pub returns-clause-ticks : goal.returns-clause-ticks
returns-clause-ticks g c =
    let may = g.R.TaskRunner.may_answer c.args.runner.now in
    let dag = c.args.plan.now.dag in
    let limits = c.args.plan.now.limits in
    let last = c.all_turns.new.scheduler in
    let driven : IsDriven may dag limits (g.N.RunCount.runs c.args.runs.now) c.one.result last.backfill = driven_first may c.in_ok-core.core dag limits _ _ c.in_ok-scheduler.scheduler last c.dag-sound.ensures.sound c.limits-fit.ensures.fit
    (c.in_ok-core.ensures {u = tt}) (c.in_ok-scheduler.ensures {u = tt}) c.in_ok-all_turns.ensures.driven in
    ends_so c.in_ok-core.core dag limits _ _ c.in_ok-scheduler.scheduler last c.in-Ok.ended (c.in_ok-core.ensures {u = tt}) (c.in_ok-scheduler.ensures {u = tt}) c.in_ok-all_turns.ensures.ticks
    driven.dag driven.limits driven.runs c.in-Ok.ensures.ok
