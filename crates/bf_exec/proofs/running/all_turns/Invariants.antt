use Rattle.bf_sched.specs.Driving.{StaysDriven}
use Rattle.bf_exec.specs.Shown.{HasShown}
use Rattle.bf_exec.specs.Turns.{AreInStep}
use Rattle.bf_exec.proofs.running.all_turns.Given as goal

abbrev pub invariant-loop : goal.invariant-loop
invariant-loop g l =
    (goal.iterator-loop g).can_next l.iterator' × (goal.iterator-loop g).is_finite l.iterator'
    × AreInStep l.executor l.scheduler × StaysDriven g.K.Service.answers l.fn.scheduler l.scheduler
    × HasShown g.O.Observer.shows l.fn.watch.observer l.watch.observer l.fn.scheduler.backfill l.scheduler.backfill
