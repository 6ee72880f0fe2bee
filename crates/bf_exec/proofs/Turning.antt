-- What a turn keeps.
use Rattle.std.proofs.Common.{◌≡◌, ◌<◌, ℕ, ℤ, Bool, true, false, List, None, Some, refl, sym, subst, subst₂, inl, inr, arith, length, not}
use Rattle.std.specs.Int.{int_min}
use Rattle.std.specs.List.{position}
use Rattle.std.specs.Prelude.{OnOk, Result, Ok, Err}
use Rattle.bf_try.specs.Asked.{Asked, Answered}
use Rattle.bf_try.specs.declared.answers.Raw.{Raw}
use Rattle.bf_try.specs.Grades.{grade_of}
use Rattle.bf_core.specs.Terms.{Given, JobName}
use Rattle.bf_core.specs.declared.event.Event.{Event}
use Rattle.bf_core.specs.Clocks.{last_moment}
use Rattle.bf_core.specs.Cores.{Backfill, moved}
use Rattle.bf_core.specs.Running.{running_now}
use Rattle.bf_sched.specs.Choices.{IsStep}
use Rattle.bf_sched.specs.Scheduling.{HasBegun, HasStepped, HasTicked, MayFinish, MustWait, Schedule, WaitsUntil, end_of, moved_on}
use Rattle.bf_lane.specs.declared.messages.Answer.TheVariants.{Done}
use Rattle.bf_lane.specs.Open.{IsIdleAt, Scheduled, awaits}
use Rattle.bf_lane.specs.Rounds.{IsGathered, IsSubmitted}
use Rattle.bf_exec.specs.Accounts.{IsInStep}
use Rattle.bf_sched.specs.Driving.{StaysDriven}
use Rattle.bf_sched.proofs.Driving.{begun_driven, finished_driven, same_driven, stays_driven, ticked_driven}
use Rattle.bf_exec.specs.Turns.{AreAmong, AreInStep, EndsAtOnce, EndsBy, EndsWait, HasAwaited, HasCaughtUp, HasStranger, IsHaltOf, IsStrange, MustAwait}
use Rattle.bf_exec.specs.inner.Turns.{IsHaltBy, IsLeftBy}
use Rattle.bf_exec.specs.declared.turn_fault.TurnFault.{TurnFault}
use Rattle.bf_exec.proofs.Keeping.{IsStill, begin_in_step, end_in_step, made_in_step, still_in_step, tick_in_step}
use Rattle.bf_exec.proofs.Sums.{first_idle, some_idle}

-- ---- driven

pub caught_up_driven : (may : JobName → Given → Raw → Type 0) (now : ℤ) (s t : Schedule) → HasCaughtUp now s t → StaysDriven may s t
caught_up_driven may now s t is = ticked_driven may s t (int_min now last_moment) is.came is.ticked

pub ended_driven : (may : JobName → Given → Raw → Type 0) (now : ℤ) (s t : Schedule) (done : Answered) → EndsBy now done s t → may done.name done.given done.raw → StaysDriven may s t
ended_driven may now s t done h ok = stays_driven may s h.present t (caught_up_driven may now s h.present h.caught_up) (finished_driven may h.present t done h.finished ok)

pub answered_driven : (may some : JobName → Given → Raw → Type 0) (s m t : Schedule) (ticket : Asked) → AreAmong some may → HasBegun s ticket m → EndsAtOnce some ticket m t → StaysDriven may s t
answered_driven may some s m t ticket among begun h =
    let done = h.answer in
    stays_driven may s m t (begun_driven may s m ticket begun) (finished_driven may m t done h.finished (among done.name done.given done.raw h.may_be))

-- ---- in step

pub same_in_step : (lanes next : List Scheduled) (s t : Schedule) → AreInStep lanes s → next ≡ lanes → t ≡ s → AreInStep next t
same_in_step lanes next s t is lanes_are schedule_is = subst (λ (p : List Scheduled × Schedule). AreInStep p.0 p.1) (λ i. (sym lanes_are i, sym schedule_is i)) is

moved_in_step : (lanes next : List Scheduled) (s t : Schedule) (e : Event) → t ≡ moved_on s e → IsInStep next (moved s.backfill e) s.workers → AreInStep next t
moved_in_step lanes next s t e is to = subst (AreInStep next) (sym is) to

pub caught_up_in_step : (lanes : List Scheduled) (now : ℤ) (s t : Schedule) → HasCaughtUp now s t → AreInStep lanes s → AreInStep lanes t
caught_up_in_step lanes now s t is before = by is.came is.ticked
  where
    by : (came : Bool) → HasTicked s (int_min now last_moment) came t → AreInStep lanes t
    by true h =
        moved_in_step lanes lanes s t (Event.Tick (int_min now last_moment)) (λ i. record { backfill = h.0.1 i; workers = h.1 i }) (tick_in_step lanes s.backfill s.workers (int_min now last_moment) before h.0.0)
    by false h = same_in_step lanes lanes s t before refl (λ i. record { backfill = h.0.1 i; workers = h.1 i })

step_still : (b : Backfill) (e : Event) → IsStep e → IsStill b e
step_still b Event.Open is = record { none_begins = λ h. refl; none_ends = λ h. refl }
step_still b (Event.Settle k t) is = record { none_begins = λ h. refl; none_ends = λ h. refl }
step_still b (Event.Expand k t) is = record { none_begins = λ h. refl; none_ends = λ h. refl }
step_still b (Event.Close k) is = record { none_begins = λ h. refl; none_ends = λ h. refl }
step_still b (Event.Begin n) is = absurd (omega (arith, is))
step_still b (Event.End n o) is = absurd (omega (arith, is))
step_still b (Event.Tick m) is = record { none_begins = λ h. refl; none_ends = λ h. refl }

pub stepped_in_step : (lanes : List Scheduled) (s t : Schedule) → HasStepped s t → AreInStep lanes s → AreInStep lanes t
stepped_in_step lanes s t h before =
    moved_in_step lanes lanes s t h.event h.new_is (still_in_step lanes s.backfill s.workers h.event before h.is_first.may_come (step_still s.backfill h.event h.is_first.is_step))

pub begun_in_step : (lanes next : List Scheduled) (s t : Schedule) (at : ℕ) (ticket : Asked) → HasBegun s ticket t → IsSubmitted lanes next at ticket → AreInStep lanes s → AreInStep next t
begun_in_step lanes next s t at ticket h sent before =
    moved_in_step lanes next s t (Event.Begin ticket.name) h.new_is (begin_in_step lanes next s.backfill s.workers at ticket before h.is_first.may_begin h.is_ticket.1 sent)

pub gathered_in_step : (lanes next : List Scheduled) (now : ℤ) (s t : Schedule) (at : ℕ) (done : Answered) → EndsBy now done s t → IsGathered lanes next at (Done done) → AreInStep lanes s → AreInStep next t
gathered_in_step lanes next now s t at done h got before =
    let p : Schedule = h.present in
    let present : AreInStep lanes p = caught_up_in_step lanes now s p h.caught_up before in
    let may : MayFinish p.backfill done = h.finished.0 in
    moved_in_step lanes next p t (end_of p.backfill done) h.finished.1
    (end_in_step lanes next p.backfill p.workers at done (grade_of p.backfill.dag done.name.task done.raw) present may.0 (may.1 may.0.0.0) got)

pub answered_in_step : (some : JobName → Given → Raw → Type 0) (lanes : List Scheduled) (s m t : Schedule) (ticket : Asked) → HasBegun s ticket m → EndsAtOnce some ticket m t → AreInStep lanes s → AreInStep lanes t
answered_in_step some lanes s m t ticket begun h before =
    moved_in_step lanes lanes m t (end_of m.backfill h.answer) h.finished.1
    (subst (λ (x : Schedule). MayFinish x.backfill h.answer → IsInStep lanes (moved x.backfill (end_of x.backfill h.answer)) x.workers) (sym begun.new_is) first h.finished.0)
  where
    c : Backfill
    c = moved s.backfill (Event.Begin ticket.name)

    first : MayFinish c h.answer → IsInStep lanes (moved c (end_of c h.answer)) s.workers
    first may =
        made_in_step lanes s.backfill s.workers ticket h.answer (grade_of s.backfill.dag h.answer.name.task h.answer.raw) before begun.is_first.may_begin begun.is_ticket.1 may.0 (may.1 may.0.0.0) h.is_name h.is_given

-- a try that has begun, and whose ticket came back, has begun
pub left_begun : (s m t : Schedule) (ticket back : Asked) → HasBegun s ticket m → (back ≡ ticket) × (t ≡ m) → HasBegun s back t
left_begun s m t ticket back begun h = subst₂ (λ (a : Asked) (x : Schedule). HasBegun s a x) (sym h.0) (sym h.1) begun

-- ---- the idle lane

abbrev is_idle : Scheduled → Bool
is_idle lane = not (awaits lane)

-- where a try may begin, a lane awaits no answer
pub idle_there : (lanes : List Scheduled) (s t : Schedule) (ticket : Asked) → AreInStep lanes s → HasBegun s ticket t → None ≡ position is_idle lanes → ⊥
idle_there lanes s t ticket is h is_none =
    let few : running_now s.backfill.state < length lanes = subst (λ (n : ℕ). running_now s.backfill.state < n) (sym is.lane_each) h.worker_free in
    some_idle lanes (running_now s.backfill.state) is.none_stopped (is.accounted.equal (λ _. 1)) few (sym is_none)

pub idle_at : (lanes : List Scheduled) (at : ℕ) → Some at ≡ position is_idle lanes → IsIdleAt lanes at
idle_at lanes at is = first_idle lanes at (sym is)

-- ---- halts

strange_halt : (lanes next : List Scheduled) (s t : Schedule) (at : ℕ) (done : Answered) → IsStrange done s t → IsGathered lanes next at (Done done) → AreInStep lanes s → HasStranger lanes next
strange_halt lanes next s t at done h got before = record {
  at = at;
  answer = done;
  backfill = t.backfill;
  workers = t.workers;
  in_step = caught_up_in_step lanes h.now s t h.caught_up before;
  got = got;
  refused = h.refused;
}

-- why the try of a gathered answer didn't end is why the turn halts
pub halted_by : (lanes next : List Scheduled) (s t : Schedule) (at : ℕ) (done : Answered) (halt : TurnFault) → IsHaltBy done s t halt → IsGathered lanes next at (Done done) → AreInStep lanes s → IsHaltOf lanes next halt
halted_by lanes next s t at done TurnFault.OutOfMemory h got before = inr (record { at = at; answer = Done done; got = got; is_other = tt })
halted_by lanes next s t at done (TurnFault.Runner n) h got before = absurd h
halted_by lanes next s t at done TurnFault.Stranger h got before = strange_halt lanes next s t at done h got before

pub left_by : (lanes next : List Scheduled) (halt : TurnFault) → IsHaltOf lanes next halt → IsLeftBy next halt
left_by lanes next TurnFault.OutOfMemory h = tt
left_by lanes next (TurnFault.Runner n) h = tt
left_by lanes next TurnFault.Stranger h = (lanes, h)

-- ---- what a turn is

pub must_wait : (p q : Schedule) → MustWait p q → MustAwait p
must_wait p q must = inl (record { no_step = must.no_step; some_run = must.some_run; none_begins = must.none_begins; new_is = refl })

pub must_until : (p q : Schedule) (moment : ℤ) → WaitsUntil p moment q → MustAwait p
must_until p q moment must = inr (moment, record { idle = must.idle; none_comes = must.none_comes; is_first = must.is_first; new_is = refl })

pub awaited : (now before : ℤ) (lanes next : List Scheduled) (s p q t : Schedule) → HasCaughtUp before s p → q ≡ p → MustAwait p → EndsWait now lanes next q t → HasAwaited now lanes next s t
awaited now before lanes next s p q t caught_up is must h =
    record { before = before; present = p; caught_up = caught_up; must = must; awaited = subst (λ (x : Schedule). EndsWait now lanes next x t) is h }

-- the clock has caught up, nothing has come, and then a step keeps the backfill driven
pub awaited_driven : (may : JobName → Given → Raw → Type 0) (before : ℤ) (s p q t : Schedule) → HasCaughtUp before s p → q ≡ p → StaysDriven may q t → StaysDriven may s t
awaited_driven may before s p q t caught_up is h = stays_driven may s p t (caught_up_driven may before s p caught_up) (stays_driven may p q t (same_driven may p q is) h)

pub awaited_in_step : (lanes : List Scheduled) (before : ℤ) (s p q : Schedule) → HasCaughtUp before s p → q ≡ p → AreInStep lanes s → AreInStep lanes q
awaited_in_step lanes before s p q caught_up is first = same_in_step lanes lanes p q (caught_up_in_step lanes before s p caught_up first) refl is

pub on_ok : {T E : Type 0} (r : Result T E) (P Q : Type 0) → (P → Q) → OnOk r P → OnOk r Q
on_ok (Ok x) P Q f h = f h
on_ok (Err e) P Q f h = tt
