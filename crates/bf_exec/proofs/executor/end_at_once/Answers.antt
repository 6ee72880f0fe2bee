use Rattle.std.proofs.Common.{ap}
use Rattle.bf_sched.specs.Scheduling.{Schedule, end_of}
use Rattle.bf_sched.proofs.Answering.{may_finish}
use Rattle.bf_exec.proofs.Shown.{one_shown, same_shown, still_shown}
use Rattle.bf_exec.proofs.executor.end_at_once.Goals as goal

pub finish_allowed-requires : goal.finish_allowed-requires
finish_allowed-requires g c = may_finish c.args.scheduler.now.backfill c.args.ticket c.in-Ok.done c.requires c.in-Ok.ensures.ok.0 c.in-Ok.ensures.ok.1

pub returns-in_ok-finish_allowed-in-Ok-clause-none : goal.returns-in_ok-finish_allowed-in-Ok-clause-none
returns-in_ok-finish_allowed-in-Ok-clause-none g c = record { answer = c.in-Ok.done; is_name = c.in-Ok.ensures.ok.0; is_given = c.in-Ok.ensures.ok.1; may_be = c.in-Ok.ensures.ok.2; finished = c.in_ok-finish_allowed-in-Ok.ensures.ok }

pub returns-in_ok-finish_allowed-in-Ok-clause-shown : goal.returns-in_ok-finish_allowed-in-Ok-clause-shown
returns-in_ok-finish_allowed-in-Ok-clause-shown g c =
    let s = c.args.scheduler.now in
    one_shown g.O.Observer.shows c.args.observer.now c.show_last_event.new.observer s.backfill c.finish_allowed.new.self.backfill (end_of s.backfill c.in-Ok.done)
    (ap (λ (x : Schedule). x.backfill) c.in_ok-finish_allowed-in-Ok.ensures.ok.1) c.show_last_event.ensures

pub returns-in_err-finish_allowed-in-Ok-clause-shown : goal.returns-in_err-finish_allowed-in-Ok-clause-shown
returns-in_err-finish_allowed-in-Ok-clause-shown g c =
    same_shown g.O.Observer.shows c.args.observer.now c.args.scheduler.now.backfill c.finish_allowed.new.self.backfill (ap (λ (x : Schedule). x.backfill) c.in_err-finish_allowed-in-Ok.ensures.same)

pub returns-in-Err-clause-shown : goal.returns-in-Err-clause-shown
returns-in-Err-clause-shown g c = still_shown g.O.Observer.shows c.args.observer.now c.args.scheduler.now.backfill
