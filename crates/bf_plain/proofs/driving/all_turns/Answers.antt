use Rattle.std.proofs.Common.{ap, length}
use Rattle.bf_sched.proofs.Driving.{stays_driven}
use Rattle.bf_plain.proofs.Ticking.{then_so}
use Rattle.bf_plain.proofs.driving.all_turns.Goals as goal

pub loop-scheduler-preserved : goal.loop-scheduler-preserved
loop-scheduler-preserved g c = (
  c.in_ok-turn.ensures.idle,
  stays_driven (g.R.TaskRunner.may_answer c.args.runner.now) c.args.scheduler.now c.loop-scheduler.scheduler c.turn.new.scheduler c.loop-scheduler.invariant.1 c.in_ok-turn.ensures.driven,
  ap length c.journal-events-in-loop-scheduler.ensures.journal,
  then_so c.args.scheduler.now c.loop-scheduler.scheduler c.turn.new.scheduler c.loop-scheduler.invariant.3 c.in_ok-turn.ensures.ticks,
)

pub returns-clause-driven : goal.returns-clause-driven
returns-clause-driven g c =
    stays_driven (g.R.TaskRunner.may_answer c.args.runner.now) c.args.scheduler.now c.loop-scheduler.scheduler c.turn.new.scheduler c.loop-scheduler.invariant.1 c.in_ok-turn.ensures.driven

pub returns-clause-ticks : goal.returns-clause-ticks
returns-clause-ticks g c = then_so c.args.scheduler.now c.loop-scheduler.scheduler c.turn.new.scheduler c.loop-scheduler.invariant.3 c.in_ok-turn.ensures.ticks
