-- What keeps a backfill driven, from its start to its end.
use Rattle.std.proofs.Common.{◌≡◌, ℕ, ℤ, Bool, true, false, refl, sym, ap, ◌∙◌, subst, arith}
use Rattle.bf_plan.specs.Sound.{AreLimits, IsSound}
use Rattle.bf_try.specs.Asked.{Asked, Answered}
use Rattle.bf_try.specs.declared.answers.Raw.{Raw}
use Rattle.bf_core.specs.Terms.{Dag, Given, JobName, Limits}
use Rattle.bf_core.specs.declared.event.Event.{Event}
use Rattle.bf_core.specs.Cores.{Backfill, MayCome, opening}
use Rattle.bf_core.specs.Driven.{IsDriven}
use Rattle.bf_core.specs.inner.Driven.{IsOver}
use Rattle.bf_core.specs.Endings.{Ending, ending_of}
use Rattle.bf_core.specs.Events.{cell_at, given_in, place_in}
use Rattle.bf_core.specs.Running.{running_now}
use Rattle.bf_core.proofs.Driven.{EndsGraded, driven_moved, driven_opening, over}
use Rattle.bf_core.proofs.RunningTries.{start_idle}
use Rattle.bf_core.proofs.WorkerLemmas.{IsFree}
use Rattle.bf_sched.specs.Choices.{IsStep}
use Rattle.bf_sched.specs.Scheduling.{HasBegun, HasFinished, HasStepped, HasTicked, Schedule, end_of, moved_on}
use Rattle.bf_sched.specs.Driving.{StaysDriven}

-- ---- the start

pub opening_idle : (b : Backfill) (dag : Dag) (limits : Limits) (runs : ℕ) → b ≡ opening dag limits runs → running_now b.state ≡ 0
opening_idle b dag limits runs is = ap (λ (x : Backfill). running_now x.state) is ∙ start_idle dag runs (λ k t i x. 1)

-- ---- on the way

moved_driven : (may : JobName → Given → Raw → Type 0) (s t : Schedule) (e : Event) → EndsGraded may s.backfill e → IsFree s.workers s.backfill e → MayCome s.backfill e → t ≡ moved_on s e → StaysDriven may s t
moved_driven may s t e graded free able is = record {
  so = λ dag limits runs d.
      subst (λ (w : ℕ). IsDriven may dag limits runs w t.backfill) (sym (ap (λ (x : Schedule). x.workers) is))
      (driven_moved may dag limits runs s.workers s.backfill t.backfill e graded free able (ap (λ (x : Schedule). x.backfill) is) d);
  workers = ap (λ (x : Schedule). x.workers) is;
}

pub same_driven : (may : JobName → Given → Raw → Type 0) (s t : Schedule) → t ≡ s → StaysDriven may s t
same_driven may s t is = record { so = λ dag limits runs d. subst (λ (x : Schedule). IsDriven may dag limits runs x.workers x.backfill) (sym is) d; workers = ap (λ (x : Schedule). x.workers) is }

pub stays_driven : (may : JobName → Given → Raw → Type 0) (s t u : Schedule) → StaysDriven may s t → StaysDriven may t u → StaysDriven may s u
stays_driven may s t u h k = record { so = λ dag limits runs d. k.so dag limits runs (h.so dag limits runs d); workers = k.workers ∙ h.workers }

pub ticked_driven : (may : JobName → Given → Raw → Type 0) (s t : Schedule) (moment : ℤ) (came : Bool) → HasTicked s moment came t → StaysDriven may s t
ticked_driven may s t moment true h = moved_driven may s t (Event.Tick moment) tt tt h.0.0 (λ i. record { backfill = h.0.1 i; workers = h.1 i })
ticked_driven may s t moment false h = same_driven may s t (λ i. record { backfill = h.0.1 i; workers = h.1 i })

step_still : (may : JobName → Given → Raw → Type 0) (workers : ℕ) (b : Backfill) (e : Event) → IsStep e → EndsGraded may b e × IsFree workers b e
step_still may workers b Event.Open is = (tt, tt)
step_still may workers b (Event.Settle k t) is = (tt, tt)
step_still may workers b (Event.Expand k t) is = (tt, tt)
step_still may workers b (Event.Close k) is = (tt, tt)
step_still may workers b (Event.Begin n) is = absurd (omega (arith, is))
step_still may workers b (Event.End n o) is = absurd (omega (arith, is))
step_still may workers b (Event.Tick m) is = (tt, tt)

pub stepped_driven : (may : JobName → Given → Raw → Type 0) (s t : Schedule) → HasStepped s t → StaysDriven may s t
stepped_driven may s t h =
    let still = step_still may s.workers s.backfill h.event h.is_first.is_step in
    moved_driven may s t h.event still.0 still.1 h.is_first.may_come h.new_is

pub begun_driven : (may : JobName → Given → Raw → Type 0) (s t : Schedule) (ticket : Asked) → HasBegun s ticket t → StaysDriven may s t
begun_driven may s t ticket h = moved_driven may s t (Event.Begin ticket.name) tt h.worker_free h.is_first.may_begin h.new_is

pub finished_driven : (may : JobName → Given → Raw → Type 0) (s t : Schedule) (done : Answered) → HasFinished s done t → may done.name done.given done.raw → StaysDriven may s t
finished_driven may s t done h ok =
    let same : given_in (cell_at s.backfill.state done.name.run done.name.task) (place_in s.backfill.dag done.name) ≡ done.given = h.0.1 h.0.0.0.0 in
    moved_driven may s t (end_of s.backfill done) (done.raw, (subst (λ (g : Given). may done.name g done.raw) (sym same) ok), refl) tt h.0.0 h.1

-- ---- the end

pub driven_first : (may : JobName → Given → Raw → Type 0) (b : Backfill) (dag : Dag) (limits : Limits) (runs workers : ℕ) (first last : Schedule) → IsSound dag → AreLimits dag limits → b ≡ opening dag limits runs →
    first ≡ record { backfill = b; workers = workers } → StaysDriven may first last → IsDriven may dag limits runs workers last.backfill
driven_first may b dag limits runs workers first last sound fit is to stays =
    let opened : first.backfill ≡ opening dag limits runs = ap (λ (x : Schedule). x.backfill) to ∙ is in
    let many : last.workers ≡ workers = stays.workers ∙ ap (λ (x : Schedule). x.workers) to in
    subst (λ (w : ℕ). IsDriven may dag limits runs w last.backfill) many (stays.so dag limits runs (driven_opening may dag limits runs first.workers first.backfill sound fit opened))

-- what a backfill that was driven from the start comes to
pub ends_over : (may : JobName → Given → Raw → Type 0) (b : Backfill) (dag : Dag) (limits : Limits) (runs workers : ℕ) (first last : Schedule) (ending : Ending) → IsSound dag → AreLimits dag limits → b ≡ opening dag limits runs →
    first ≡ record { backfill = b; workers = workers } → StaysDriven may first last → ending ≡ ending_of last.backfill ending.run_states → IsOver may dag limits runs workers ending
ends_over may b dag limits runs workers first last ending sound fit is to stays same =
    over may dag limits runs workers last.backfill ending.run_states ending (driven_first may b dag limits runs workers first last sound fit is to stays) same
