use Rattle.bf_exec.proofs.Shown.{none_last, shown_last}
use Rattle.bf_exec.proofs.executor.show_last_event.Goals as goal

pub returns-in-Some : goal.returns-in-Some
returns-in-Some g c =
    shown_last g.O.Observer.shows c.args.observer.now c.on_event.new.self c.args.scheduler.now.backfill c.journal.result.now c.in-Some.event.now c.running.result c.journal.ensures.journal c.in-Some.ensures.value c.running.ensures.running c.on_event.ensures

pub returns-in_default : goal.returns-in_default
returns-in_default g c = none_last g.O.Observer.shows c.args.observer.now c.args.observer.now c.args.scheduler.now.backfill c.journal.result.now c.journal.ensures.journal (c.in_default.ensures {u = tt}).value
