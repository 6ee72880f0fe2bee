use Rattle.std.proofs.Common.{refl}
use Rattle.bf_sched.proofs.Driving.{same_driven, stays_driven}
use Rattle.bf_exec.proofs.Shown.{still_shown, then_shown}
use Rattle.bf_exec.proofs.running.all_turns.Goals as goal

pub loop-init : goal.loop-init
loop-init g c = (tt, tt, c.requires.in_step, same_driven g.K.Service.answers c.args.scheduler.now c.args.scheduler.now refl, still_shown g.O.Observer.shows c.args.watch.now.observer c.args.scheduler.now.backfill)

pub returns-then-not-branch-clause-driven : goal.returns-then-not-branch-clause-driven
returns-then-not-branch-clause-driven g c = stays_driven g.K.Service.answers c.args.scheduler.now c.loop.scheduler c.turn.new.scheduler c.loop.invariant.3 c.in_ok-turn.ensures.driven

pub returns-then-not-branch-clause-shown : goal.returns-then-not-branch-clause-shown
returns-then-not-branch-clause-shown g c = then_shown g.O.Observer.shows _ _ _ _ _ _ c.loop.invariant.4 c.in_ok-turn.ensures.shown

pub returns-in_err-turn-clause-shown : goal.returns-in_err-turn-clause-shown
returns-in_err-turn-clause-shown g c = then_shown g.O.Observer.shows _ _ _ _ _ _ c.loop.invariant.4 c.turn.ensures.shown

pub loop-preserved : goal.loop-preserved
loop-preserved g c = (
  tt,
  tt,
  c.in_ok-turn.ensures.in_step,
  stays_driven g.K.Service.answers c.args.scheduler.now c.loop.scheduler c.turn.new.scheduler c.loop.invariant.3 c.in_ok-turn.ensures.driven,
  then_shown g.O.Observer.shows _ _ _ _ _ _ c.loop.invariant.4 c.in_ok-turn.ensures.shown,
)
