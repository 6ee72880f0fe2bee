use Rattle.std.proofs.Common.{◌-◌, arith}
use Rattle.bf_sched.proofs.Keeping.{end_keeps, end_running}
use Rattle.bf_sched.proofs.scheduler.Scheduler.end.Goals as goal

pub overflow_sub-self : goal.overflow_sub-self
overflow_sub-self c =
    let n : _ = end_running c.self.inside.ready c.journal-replayed.ensures.replayed c.args.name c.args.outcome c.in-Ok.ensures.ok.0 in
    omega (arith, n, c.self.invariant.counted)

pub invariant_of-self-in-Ok : goal.invariant_of-self-in-Ok
invariant_of-self-in-Ok c =
    let n : _ = end_running c.self.inside.ready c.journal-replayed.ensures.replayed c.args.name c.args.outcome c.in-Ok.ensures.ok.0 in
    end_keeps c.self.inside.ready c.apply.new.self c.self.inside.workers c.self.inside.running (c.self.inside.running - 1) c.args.name c.args.outcome
    c.journal-replayed.ensures.replayed c.self.invariant c.in-Ok.ensures.ok.0 (omega (arith, n, c.self.invariant.counted)) c.in-Ok.ensures.ok.1
