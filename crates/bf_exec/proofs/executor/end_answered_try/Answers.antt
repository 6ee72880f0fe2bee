use Rattle.std.proofs.Common.{ap}
use Rattle.bf_sched.specs.Scheduling.{Schedule, end_of}
use Rattle.bf_exec.proofs.Shown.{acted_shown}
use Rattle.bf_exec.proofs.executor.end_answered_try.Goals as goal

pub returns-in-Ok-clause-ok : goal.returns-in-Ok-clause-ok
returns-in-Ok-clause-ok g c = record { present = c.tick_to_present.new.scheduler; caught_up = c.in_ok-tick_to_present.ensures.ok; finished = c.in-Ok.ensures.ok }

pub returns-in-Ok-clause-shown : goal.returns-in-Ok-clause-shown
returns-in-Ok-clause-shown g c =
    let p = c.tick_to_present.new.scheduler in
    acted_shown g.O.Observer.shows c.args.watch.now.observer c.tick_to_present.new.watch.observer c.show_last_event.new.observer c.args.scheduler.now p c.finish.new.self (end_of p.backfill c.args.done)
    c.in_ok-tick_to_present.ensures.shown (ap (λ (s : Schedule). s.backfill) c.in-Ok.ensures.ok.1) c.show_last_event.ensures
