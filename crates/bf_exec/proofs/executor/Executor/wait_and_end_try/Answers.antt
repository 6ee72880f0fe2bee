use Rattle.std.proofs.Common.{subst}
use Rattle.bf_lane.specs.declared.messages.Answer.{Answer}
use Rattle.bf_lane.specs.Lanes.{IsAllowedBy}
use Rattle.bf_sched.specs.Driving.{StaysDriven}
use Rattle.bf_exec.specs.Turns.{EndsBy}
use Rattle.bf_exec.proofs.Turning.{ended_driven, on_ok}
use Rattle.bf_exec.proofs.executor.Executor.wait_and_end_try.Goals as goal

pub returns-in-Done-clause-driven : goal.returns-in-Done-clause-driven
returns-in-Done-clause-driven g c =
    let may = g.K.Service.answers in
    let now = g.C.TimeSource.last c.end_answered_try.new.watch.clock in
    let s = c.args.scheduler.now in
    let t = c.end_answered_try.new.scheduler in
    let done = c.in-Done.done in
    let allowed : may done.name done.given done.raw = subst (λ (a : Answer). IsAllowedBy may g.K.Service.gives_up a) c.in-Done.is c.in-Some.ensures.allowed in
    on_ok c.end_answered_try.result (EndsBy now done s t) (StaysDriven may s t) (λ h. ended_driven may now s t done h allowed) c.end_answered_try.ensures.ok
