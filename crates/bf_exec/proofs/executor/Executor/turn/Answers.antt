use Rattle.std.proofs.Common.{◌≡◌, List, ap, refl, sym, subst, inl, inr}
use Rattle.bf_lane.specs.Open.{Scheduled}
use Rattle.bf_lane.specs.Rounds.{IsSubmitted}
use Rattle.bf_sched.specs.declared.next.Next.{Next}
use Rattle.bf_sched.specs.Scheduling.{HasBegun, HasStepped, IsNext, MustWait, Schedule, WaitsUntil}
use Rattle.bf_core.specs.declared.event.Event.{Event}
use Rattle.bf_core.specs.Events.{HasEnded}
use Rattle.bf_exec.specs.Turns.{AreInStep, EndsAtOnce}
use Rattle.bf_sched.proofs.Answering.{begun_under_way}
use Rattle.bf_sched.proofs.Driving.{begun_driven, same_driven, stays_driven, stepped_driven}
use Rattle.bf_exec.proofs.Shown.{acted_shown, awaited_shown, begun_shown, idle_shown}
use Rattle.bf_exec.proofs.Turning.{answered_driven, answered_in_step, awaited, awaited_driven, awaited_in_step, begun_in_step, caught_up_driven, caught_up_in_step, idle_at, idle_there, left_begun, must_until, must_wait, stepped_in_step}
use Rattle.bf_exec.proofs.executor.Executor.turn.Goals as goal

pub unreachable-requires : goal.unreachable-requires
unreachable-requires g c =
    let p = c.tick_to_present.new.scheduler in
    let begun : HasBegun p c.in-Go.ticket c.next.new.self = subst (λ (n : Next). IsNext p n c.next.new.self) c.in-Go.is c.in_ok-next.ensures.ok in
    let in_step = caught_up_in_step c.args.self.now _ c.args.scheduler.now p c.in_ok-tick_to_present.ensures.ok c.requires.in_step in
    idle_there c.self.inside.lanes p c.next.new.self c.in-Go.ticket (subst (λ (ls : List Scheduled). AreInStep ls p) (sym c.self.view_is) in_step) begun (c.in_default.ensures {u = tt})

pub submit-requires-after_bounds : goal.submit-requires-after_bounds
submit-requires-after_bounds g c κs within = idle_at c.self.inside.lanes c.in-Some.at (c.in-Some.ensures {u = tt})

pub wait_and_end_try-requires-clause-in_step : goal.wait_and_end_try-requires-clause-in_step
wait_and_end_try-requires-clause-in_step g c κs within =
    let p = c.tick_to_present.new.scheduler in
    let must : MustWait p c.next.new.self = subst (λ (n : Next). IsNext p n c.next.new.self) c.in-Wait.is c.in_ok-next.ensures.ok in
    awaited_in_step c.args.self.now _ c.args.scheduler.now p c.next.new.self c.in_ok-tick_to_present.ensures.ok must.new_is c.requires.in_step

pub wait_and_end_try-requires-in-Until-clause-in_step : goal.wait_and_end_try-requires-in-Until-clause-in_step
wait_and_end_try-requires-in-Until-clause-in_step g c κs within =
    let p = c.tick_to_present.new.scheduler in
    let must : WaitsUntil p c.in-Until.moment c.next.new.self = subst (λ (n : Next). IsNext p n c.next.new.self) c.in-Until.is c.in_ok-next.ensures.ok in
    awaited_in_step c.args.self.now _ c.args.scheduler.now p c.next.new.self c.in_ok-tick_to_present.ensures.ok must.new_is c.requires.in_step

pub returns-in-Stepped-clause-ok : goal.returns-in-Stepped-clause-ok
returns-in-Stepped-clause-ok g c =
    let p = c.tick_to_present.new.scheduler in
    let stepped : HasStepped p c.next.new.self = subst (λ (n : Next). IsNext p n c.next.new.self) c.in-Stepped.is c.in_ok-next.ensures.ok in
    inl (record { present = p; caught_up = c.in_ok-tick_to_present.ensures.ok; acted = inl (refl, stepped) })

pub returns-in-Stepped-clause-in_step : goal.returns-in-Stepped-clause-in_step
returns-in-Stepped-clause-in_step g c =
    let p = c.tick_to_present.new.scheduler in
    let stepped : HasStepped p c.next.new.self = subst (λ (n : Next). IsNext p n c.next.new.self) c.in-Stepped.is c.in_ok-next.ensures.ok in
    stepped_in_step c.args.self.now p c.next.new.self stepped (caught_up_in_step c.args.self.now _ c.args.scheduler.now p c.in_ok-tick_to_present.ensures.ok c.requires.in_step)

pub returns-in-Stepped-clause-driven : goal.returns-in-Stepped-clause-driven
returns-in-Stepped-clause-driven g c =
    let may = g.K.Service.answers in
    let p = c.tick_to_present.new.scheduler in
    let stepped : HasStepped p c.next.new.self = subst (λ (n : Next). IsNext p n c.next.new.self) c.in-Stepped.is c.in_ok-next.ensures.ok in
    stays_driven may c.args.scheduler.now p c.next.new.self (caught_up_driven may _ c.args.scheduler.now p c.in_ok-tick_to_present.ensures.ok) (stepped_driven may p c.next.new.self stepped)

pub end_at_once-requires : goal.end_at_once-requires
end_at_once-requires g c =
    let p = c.tick_to_present.new.scheduler in
    let begun : HasBegun p c.in-Go.ticket c.next.new.self = subst (λ (n : Next). IsNext p n c.next.new.self) c.in-Go.is c.in_ok-next.ensures.ok in
    begun_under_way p c.next.new.self c.in-Go.ticket begun

pub returns-in-Some-2-clause-ok : goal.returns-in-Some-2-clause-ok
returns-in-Some-2-clause-ok g c =
    let p = c.tick_to_present.new.scheduler in
    let begun : HasBegun p c.in-Go.ticket c.next.new.self = subst (λ (n : Next). IsNext p n c.next.new.self) c.in-Go.is c.in_ok-next.ensures.ok in
    let came : (c.in-Some-2.ticket ≡ c.in-Go.ticket) × (c.end_at_once.new.scheduler ≡ c.next.new.self) = rw c.in-Some-2.is at c.in_ok-ticket-in-Go.ensures.some in
    let left : HasBegun p c.in-Some-2.ticket c.end_at_once.new.scheduler = left_begun p c.next.new.self c.end_at_once.new.scheduler c.in-Go.ticket c.in-Some-2.ticket begun came in
    let sent : IsSubmitted c.args.self.now c.submit.new.self c.in-Some.at c.in-Some-2.ticket = rw (← c.self.view_is) c.submit.ensures in
    inl (record { present = p; caught_up = c.in_ok-tick_to_present.ensures.ok; acted = inr (inl (record { at = c.in-Some.at; ticket = c.in-Some-2.ticket; sent = sent; begun = left })) })

pub returns-in-Some-2-clause-in_step : goal.returns-in-Some-2-clause-in_step
returns-in-Some-2-clause-in_step g c =
    let p = c.tick_to_present.new.scheduler in
    let begun : HasBegun p c.in-Go.ticket c.next.new.self = subst (λ (n : Next). IsNext p n c.next.new.self) c.in-Go.is c.in_ok-next.ensures.ok in
    let came : (c.in-Some-2.ticket ≡ c.in-Go.ticket) × (c.end_at_once.new.scheduler ≡ c.next.new.self) = rw c.in-Some-2.is at c.in_ok-ticket-in-Go.ensures.some in
    let left : HasBegun p c.in-Some-2.ticket c.end_at_once.new.scheduler = left_begun p c.next.new.self c.end_at_once.new.scheduler c.in-Go.ticket c.in-Some-2.ticket begun came in
    let sent : IsSubmitted c.args.self.now c.submit.new.self c.in-Some.at c.in-Some-2.ticket = rw (← c.self.view_is) c.submit.ensures in
    begun_in_step c.args.self.now c.submit.new.self p c.end_at_once.new.scheduler c.in-Some.at c.in-Some-2.ticket left sent
    (caught_up_in_step c.args.self.now _ c.args.scheduler.now p c.in_ok-tick_to_present.ensures.ok c.requires.in_step)

pub returns-in-Some-2-clause-driven : goal.returns-in-Some-2-clause-driven
returns-in-Some-2-clause-driven g c =
    let may = g.K.Service.answers in
    let p = c.tick_to_present.new.scheduler in
    let begun : HasBegun p c.in-Go.ticket c.next.new.self = subst (λ (n : Next). IsNext p n c.next.new.self) c.in-Go.is c.in_ok-next.ensures.ok in
    let came : (c.in-Some-2.ticket ≡ c.in-Go.ticket) × (c.end_at_once.new.scheduler ≡ c.next.new.self) = rw c.in-Some-2.is at c.in_ok-ticket-in-Go.ensures.some in
    let left : HasBegun p c.in-Some-2.ticket c.end_at_once.new.scheduler = left_begun p c.next.new.self c.end_at_once.new.scheduler c.in-Go.ticket c.in-Some-2.ticket begun came in
    stays_driven may c.args.scheduler.now p c.end_at_once.new.scheduler (caught_up_driven may _ c.args.scheduler.now p c.in_ok-tick_to_present.ensures.ok) (begun_driven may p c.end_at_once.new.scheduler c.in-Some-2.ticket left)

pub returns-in-None-clause-ok : goal.returns-in-None-clause-ok
returns-in-None-clause-ok g c =
    let p = c.tick_to_present.new.scheduler in
    let begun : HasBegun p c.in-Go.ticket c.next.new.self = subst (λ (n : Next). IsNext p n c.next.new.self) c.in-Go.is c.in_ok-next.ensures.ok in
    let ended : EndsAtOnce (g.D.AnswerAtOnce.may_answer_at_once c.args.desk.now) c.in-Go.ticket c.next.new.self c.end_at_once.new.scheduler = rw c.in-None.is at c.in_ok-ticket-in-Go.ensures.none in
    inl (record { present = p; caught_up = c.in_ok-tick_to_present.ensures.ok; acted = inr (inr (record { ticket = c.in-Go.ticket; running = c.next.new.self; begun = begun; ended = ended; lanes_are = refl })) })

pub returns-in-None-clause-in_step : goal.returns-in-None-clause-in_step
returns-in-None-clause-in_step g c =
    let p = c.tick_to_present.new.scheduler in
    let begun : HasBegun p c.in-Go.ticket c.next.new.self = subst (λ (n : Next). IsNext p n c.next.new.self) c.in-Go.is c.in_ok-next.ensures.ok in
    let ended : EndsAtOnce (g.D.AnswerAtOnce.may_answer_at_once c.args.desk.now) c.in-Go.ticket c.next.new.self c.end_at_once.new.scheduler = rw c.in-None.is at c.in_ok-ticket-in-Go.ensures.none in
    answered_in_step (g.D.AnswerAtOnce.may_answer_at_once c.args.desk.now) c.args.self.now p c.next.new.self c.end_at_once.new.scheduler c.in-Go.ticket begun ended
    (caught_up_in_step c.args.self.now _ c.args.scheduler.now p c.in_ok-tick_to_present.ensures.ok c.requires.in_step)

pub returns-in-None-clause-driven : goal.returns-in-None-clause-driven
returns-in-None-clause-driven g c =
    let may = g.K.Service.answers in
    let p = c.tick_to_present.new.scheduler in
    let begun : HasBegun p c.in-Go.ticket c.next.new.self = subst (λ (n : Next). IsNext p n c.next.new.self) c.in-Go.is c.in_ok-next.ensures.ok in
    let ended : EndsAtOnce (g.D.AnswerAtOnce.may_answer_at_once c.args.desk.now) c.in-Go.ticket c.next.new.self c.end_at_once.new.scheduler = rw c.in-None.is at c.in_ok-ticket-in-Go.ensures.none in
    stays_driven may c.args.scheduler.now p c.end_at_once.new.scheduler (caught_up_driven may _ c.args.scheduler.now p c.in_ok-tick_to_present.ensures.ok)
    (answered_driven may (g.D.AnswerAtOnce.may_answer_at_once c.args.desk.now) p c.next.new.self c.end_at_once.new.scheduler c.in-Go.ticket c.requires.at_once begun ended)

pub returns-in_ok-wait_and_end_try-in-Wait-clause-ok : goal.returns-in_ok-wait_and_end_try-in-Wait-clause-ok
returns-in_ok-wait_and_end_try-in-Wait-clause-ok g c =
    let p = c.tick_to_present.new.scheduler in
    let must : MustWait p c.next.new.self = subst (λ (n : Next). IsNext p n c.next.new.self) c.in-Wait.is c.in_ok-next.ensures.ok in
    inr (awaited _ _ c.args.self.now c.wait_and_end_try.new.self c.args.scheduler.now p c.next.new.self c.wait_and_end_try.new.scheduler c.in_ok-tick_to_present.ensures.ok must.new_is (must_wait p c.next.new.self must) c.in_ok-wait_and_end_try-in-Wait.ensures.ok)

pub returns-in_ok-wait_and_end_try-in-Wait-clause-driven : goal.returns-in_ok-wait_and_end_try-in-Wait-clause-driven
returns-in_ok-wait_and_end_try-in-Wait-clause-driven g c =
    let p = c.tick_to_present.new.scheduler in
    let must : MustWait p c.next.new.self = subst (λ (n : Next). IsNext p n c.next.new.self) c.in-Wait.is c.in_ok-next.ensures.ok in
    awaited_driven g.K.Service.answers _ c.args.scheduler.now p c.next.new.self c.wait_and_end_try.new.scheduler c.in_ok-tick_to_present.ensures.ok must.new_is c.in_ok-wait_and_end_try-in-Wait.ensures.driven

pub returns-in_ok-wait_and_end_try-in-Until-clause-ok : goal.returns-in_ok-wait_and_end_try-in-Until-clause-ok
returns-in_ok-wait_and_end_try-in-Until-clause-ok g c =
    let p = c.tick_to_present.new.scheduler in
    let must : WaitsUntil p c.in-Until.moment c.next.new.self = subst (λ (n : Next). IsNext p n c.next.new.self) c.in-Until.is c.in_ok-next.ensures.ok in
    inr (awaited _ _ c.args.self.now c.wait_and_end_try-in-Until.new.self c.args.scheduler.now p c.next.new.self c.wait_and_end_try-in-Until.new.scheduler c.in_ok-tick_to_present.ensures.ok must.new_is (must_until p c.next.new.self c.in-Until.moment must) c.in_ok-wait_and_end_try-in-Until.ensures.ok)

pub returns-in_ok-wait_and_end_try-in-Until-clause-driven : goal.returns-in_ok-wait_and_end_try-in-Until-clause-driven
returns-in_ok-wait_and_end_try-in-Until-clause-driven g c =
    let p = c.tick_to_present.new.scheduler in
    let must : WaitsUntil p c.in-Until.moment c.next.new.self = subst (λ (n : Next). IsNext p n c.next.new.self) c.in-Until.is c.in_ok-next.ensures.ok in
    awaited_driven g.K.Service.answers _ c.args.scheduler.now p c.next.new.self c.wait_and_end_try-in-Until.new.scheduler c.in_ok-tick_to_present.ensures.ok must.new_is c.in_ok-wait_and_end_try-in-Until.ensures.driven

pub returns-in-Ended-clause-in_step : goal.returns-in-Ended-clause-in_step
returns-in-Ended-clause-in_step g c =
    let p = c.tick_to_present.new.scheduler in
    let ended : HasEnded p.backfill.state × (c.next.new.self ≡ p) = subst (λ (n : Next). IsNext p n c.next.new.self) c.in-Ended.is c.in_ok-next.ensures.ok in
    awaited_in_step c.args.self.now _ c.args.scheduler.now p c.next.new.self c.in_ok-tick_to_present.ensures.ok ended.1 c.requires.in_step

pub returns-in-Ended-clause-driven : goal.returns-in-Ended-clause-driven
returns-in-Ended-clause-driven g c =
    let may = g.K.Service.answers in
    let p = c.tick_to_present.new.scheduler in
    let ended : HasEnded p.backfill.state × (c.next.new.self ≡ p) = subst (λ (n : Next). IsNext p n c.next.new.self) c.in-Ended.is c.in_ok-next.ensures.ok in
    stays_driven may c.args.scheduler.now p c.next.new.self (caught_up_driven may _ c.args.scheduler.now p c.in_ok-tick_to_present.ensures.ok) (same_driven may p c.next.new.self ended.1)

pub returns-in_err-next-clause-shown : goal.returns-in_err-next-clause-shown
returns-in_err-next-clause-shown g c =
    idle_shown g.O.Observer.shows c.args.watch.now.observer c.tick_to_present.new.watch.observer c.args.scheduler.now c.tick_to_present.new.scheduler c.next.new.self c.in_ok-tick_to_present.ensures.shown c.in_err-next.ensures.same

pub returns-in-Stepped-clause-shown : goal.returns-in-Stepped-clause-shown
returns-in-Stepped-clause-shown g c =
    let p = c.tick_to_present.new.scheduler in
    let stepped : HasStepped p c.next.new.self = subst (λ (n : Next). IsNext p n c.next.new.self) c.in-Stepped.is c.in_ok-next.ensures.ok in
    acted_shown g.O.Observer.shows c.args.watch.now.observer c.tick_to_present.new.watch.observer c.show_last_event.new.observer c.args.scheduler.now p c.next.new.self stepped.event
    c.in_ok-tick_to_present.ensures.shown (ap (λ (s : Schedule). s.backfill) stepped.new_is) c.show_last_event.ensures

pub returns-in_err-ticket-in-Go-clause-shown : goal.returns-in_err-ticket-in-Go-clause-shown
returns-in_err-ticket-in-Go-clause-shown g c =
    let p = c.tick_to_present.new.scheduler in
    let begun : HasBegun p c.in-Go.ticket c.next.new.self = subst (λ (n : Next). IsNext p n c.next.new.self) c.in-Go.is c.in_ok-next.ensures.ok in
    begun_shown g.O.Observer.shows c.args.watch.now.observer c.tick_to_present.new.watch.observer c.show_last_event-in-Go.new.observer c.end_at_once.new.observer c.args.scheduler.now p c.next.new.self c.end_at_once.new.scheduler (Event.Begin c.in-Go.ticket.name)
    c.in_ok-tick_to_present.ensures.shown (ap (λ (s : Schedule). s.backfill) begun.new_is) c.show_last_event-in-Go.ensures c.end_at_once.ensures.shown

pub returns-in-Some-2-clause-shown : goal.returns-in-Some-2-clause-shown
returns-in-Some-2-clause-shown g c =
    let p = c.tick_to_present.new.scheduler in
    let begun : HasBegun p c.in-Go.ticket c.next.new.self = subst (λ (n : Next). IsNext p n c.next.new.self) c.in-Go.is c.in_ok-next.ensures.ok in
    begun_shown g.O.Observer.shows c.args.watch.now.observer c.tick_to_present.new.watch.observer c.show_last_event-in-Go.new.observer c.end_at_once.new.observer c.args.scheduler.now p c.next.new.self c.end_at_once.new.scheduler (Event.Begin c.in-Go.ticket.name)
    c.in_ok-tick_to_present.ensures.shown (ap (λ (s : Schedule). s.backfill) begun.new_is) c.show_last_event-in-Go.ensures c.end_at_once.ensures.shown

pub returns-in-None-clause-shown : goal.returns-in-None-clause-shown
returns-in-None-clause-shown g c =
    let p = c.tick_to_present.new.scheduler in
    let begun : HasBegun p c.in-Go.ticket c.next.new.self = subst (λ (n : Next). IsNext p n c.next.new.self) c.in-Go.is c.in_ok-next.ensures.ok in
    begun_shown g.O.Observer.shows c.args.watch.now.observer c.tick_to_present.new.watch.observer c.show_last_event-in-Go.new.observer c.end_at_once.new.observer c.args.scheduler.now p c.next.new.self c.end_at_once.new.scheduler (Event.Begin c.in-Go.ticket.name)
    c.in_ok-tick_to_present.ensures.shown (ap (λ (s : Schedule). s.backfill) begun.new_is) c.show_last_event-in-Go.ensures c.end_at_once.ensures.shown

pub returns-in_ok-wait_and_end_try-in-Wait-clause-shown : goal.returns-in_ok-wait_and_end_try-in-Wait-clause-shown
returns-in_ok-wait_and_end_try-in-Wait-clause-shown g c =
    let p = c.tick_to_present.new.scheduler in
    let must : MustWait p c.next.new.self = subst (λ (n : Next). IsNext p n c.next.new.self) c.in-Wait.is c.in_ok-next.ensures.ok in
    awaited_shown g.O.Observer.shows c.args.watch.now.observer c.tick_to_present.new.watch.observer c.wait_and_end_try.new.watch.observer c.args.scheduler.now p c.next.new.self c.wait_and_end_try.new.scheduler
    c.in_ok-tick_to_present.ensures.shown must.new_is c.wait_and_end_try.ensures.shown

pub returns-in_err-wait_and_end_try-in-Wait-clause-shown : goal.returns-in_err-wait_and_end_try-in-Wait-clause-shown
returns-in_err-wait_and_end_try-in-Wait-clause-shown g c =
    let p = c.tick_to_present.new.scheduler in
    let must : MustWait p c.next.new.self = subst (λ (n : Next). IsNext p n c.next.new.self) c.in-Wait.is c.in_ok-next.ensures.ok in
    awaited_shown g.O.Observer.shows c.args.watch.now.observer c.tick_to_present.new.watch.observer c.wait_and_end_try.new.watch.observer c.args.scheduler.now p c.next.new.self c.wait_and_end_try.new.scheduler
    c.in_ok-tick_to_present.ensures.shown must.new_is c.wait_and_end_try.ensures.shown

pub returns-in_ok-wait_and_end_try-in-Until-clause-shown : goal.returns-in_ok-wait_and_end_try-in-Until-clause-shown
returns-in_ok-wait_and_end_try-in-Until-clause-shown g c =
    let p = c.tick_to_present.new.scheduler in
    let must : WaitsUntil p c.in-Until.moment c.next.new.self = subst (λ (n : Next). IsNext p n c.next.new.self) c.in-Until.is c.in_ok-next.ensures.ok in
    awaited_shown g.O.Observer.shows c.args.watch.now.observer c.tick_to_present.new.watch.observer c.wait_and_end_try-in-Until.new.watch.observer c.args.scheduler.now p c.next.new.self c.wait_and_end_try-in-Until.new.scheduler
    c.in_ok-tick_to_present.ensures.shown must.new_is c.wait_and_end_try-in-Until.ensures.shown

pub returns-in_err-wait_and_end_try-in-Until-clause-shown : goal.returns-in_err-wait_and_end_try-in-Until-clause-shown
returns-in_err-wait_and_end_try-in-Until-clause-shown g c =
    let p = c.tick_to_present.new.scheduler in
    let must : WaitsUntil p c.in-Until.moment c.next.new.self = subst (λ (n : Next). IsNext p n c.next.new.self) c.in-Until.is c.in_ok-next.ensures.ok in
    awaited_shown g.O.Observer.shows c.args.watch.now.observer c.tick_to_present.new.watch.observer c.wait_and_end_try-in-Until.new.watch.observer c.args.scheduler.now p c.next.new.self c.wait_and_end_try-in-Until.new.scheduler
    c.in_ok-tick_to_present.ensures.shown must.new_is c.wait_and_end_try-in-Until.ensures.shown

pub returns-in-Ended-clause-shown : goal.returns-in-Ended-clause-shown
returns-in-Ended-clause-shown g c =
    let p = c.tick_to_present.new.scheduler in
    let ended : HasEnded p.backfill.state × (c.next.new.self ≡ p) = subst (λ (n : Next). IsNext p n c.next.new.self) c.in-Ended.is c.in_ok-next.ensures.ok in
    idle_shown g.O.Observer.shows c.args.watch.now.observer c.tick_to_present.new.watch.observer c.args.scheduler.now p c.next.new.self c.in_ok-tick_to_present.ensures.shown ended.1
