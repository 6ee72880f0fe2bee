-- What a turn does to a backfill in which no try runs.
use Rattle.std.proofs.Common.{◌≡◌, ◌+◌, ℤ, Bool, true, false, sym, ap, ◌∙◌, subst, subst₂, arith, FitsSigned, of_z, to_z, to_z-of_z, w64}
use Rattle.std.proofs.lemmas.Int.{ints}
use Rattle.bf_try.specs.Asked.{Asked, Answered}
use Rattle.bf_try.specs.declared.answers.Raw.{Raw}
use Rattle.bf_try.proofs.GradeLemmas.{grade_fits}
use Rattle.bf_core.specs.Terms.{Given, JobName}
use Rattle.bf_core.specs.declared.state.Phase.{Phase}
use Rattle.bf_core.specs.declared.event.Event.{Event}
use Rattle.bf_core.specs.Cores.{Backfill, IsReplay, MayCome}
use Rattle.bf_core.specs.Events.{IsPresent, cell_at, given_in, place_in}
use Rattle.bf_core.specs.Running.{running_now}
use Rattle.bf_core.proofs.Begun.{begun_given, running_at}
use Rattle.bf_core.proofs.Kept.{replay_in_time}
use Rattle.bf_sched.specs.Choices.{IsFirstMoment}
use Rattle.bf_sched.specs.Driving.{IsUnderWay}
use Rattle.bf_sched.specs.Scheduling.{HasBegun, HasFinished, HasStepped, HasTicked, MayFinish, Schedule, WaitsUntil}
use Rattle.bf_sched.proofs.Keeping.{begin_running, end_running, step_running, tick_running}
use Rattle.bf_plain.specs.inner.Driving.{IsIdle}

-- ---- tries

-- an answer that may be given to the ticket may be given to its own name
pub allowed_as : (may : JobName → Given → Raw → Type 0) (ticket : Asked) (done : Answered) → done.name ≡ ticket.name → done.given ≡ ticket.given → may ticket.name ticket.given done.raw → may done.name done.given done.raw
allowed_as may ticket done named given ok = subst₂ (λ (n : JobName) (g : Given). may n g done.raw) (sym named) (sym given) ok

-- ---- how many tries run

pub stepped_idle : (s t : Schedule) → IsReplay s.backfill → HasStepped s t → IsIdle s → IsIdle t
stepped_idle s t replayed h idle =
    ap (λ (x : Schedule). running_now x.backfill.state) h.new_is ∙ (step_running s.backfill replayed h.event h.is_first.is_step h.is_first.may_come ∙ idle)

pub ticked_idle : (s t : Schedule) (m : ℤ) → IsReplay s.backfill → HasTicked s m true t → IsIdle s → IsIdle t
ticked_idle s t m replayed h idle = ap (λ (x : Backfill). running_now x.state) h.0.1 ∙ (tick_running s.backfill replayed m h.0.0 ∙ idle)

-- where a try has begun and ended, none runs again
pub made_idle : (s t u : Schedule) (ticket : Asked) → IsReplay s.backfill → HasBegun s ticket t → IsIdle s → running_now u.backfill.state + 1 ≡ running_now t.backfill.state → IsIdle u
made_idle s t u ticket replayed h idle counted =
    let one : running_now t.backfill.state ≡ running_now s.backfill.state + 1 = ap (λ (x : Schedule). running_now x.backfill.state) h.new_is ∙ begin_running s.backfill replayed ticket.name h.is_first.may_begin in
    omega (arith, one, idle, counted)

pub finished_counts : (s t : Schedule) (done : Answered) → IsReplay s.backfill → HasFinished s done t → running_now t.backfill.state + 1 ≡ running_now s.backfill.state
finished_counts s t done replayed h =
    ap (λ (x : Schedule). running_now x.backfill.state + 1) h.1 ∙ end_running s.backfill replayed done.name _ h.0.0

-- ---- the clock

-- the first moment for which a try waits may come
pub first_may : (b : Backfill) → IsReplay b → (m : ℤ) → IsFirstMoment b m → MayCome b (Event.Tick m)
first_may b replayed m is =
    subst (λ (x : ℤ). MayCome b (Event.Tick x)) is.is_moment (tt, (is.waits.is_later, (replay_in_time b replayed).bounded is.name is.waits.moment is.waits.is_moment))

-- it fits 64 bits
first_fits : (b : Backfill) → IsReplay b → (m : ℤ) → IsFirstMoment b m → FitsSigned w64 m
first_fits b replayed m is =
    let from = (replay_in_time b replayed).begun in
    let timely = (first_may b replayed m is).1 in
    let later = timely.0 in
    let within = timely.1 in
    omega (arith, ints, from, later, within)

pub read_as : (s t u : Schedule) (m : ℤ) (came : Bool) → IsReplay s.backfill → WaitsUntil s m t → HasTicked t (to_z w64 (of_z w64 m)) came u → HasTicked t m came u
read_as s t u m came replayed until ticked = subst (λ (x : ℤ). HasTicked t x came u) (to_z-of_z {w = w64} {z = m} (first_fits s.backfill replayed m until.is_first)) ticked

pub until_comes : (s t u : Schedule) (m : ℤ) → IsReplay s.backfill → WaitsUntil s m t → HasTicked t m false u → ⊥
until_comes s t u m replayed until ticked = ticked.0.0 (subst (λ (x : Schedule). MayCome x.backfill (Event.Tick m)) (sym until.new_is) (first_may s.backfill replayed m until.is_first))

pub until_idle : (s t u : Schedule) (m : ℤ) → IsReplay s.backfill → WaitsUntil s m t → HasTicked t m true u → IsIdle s → IsIdle u
until_idle s t u m replayed until ticked idle = ticked_idle s u m replayed (subst (λ (x : Schedule). HasTicked x m true u) until.new_is ticked) idle
