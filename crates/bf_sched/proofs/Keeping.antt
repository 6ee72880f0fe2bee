-- What a scheduler keeps when an event comes.
use Rattle.std.proofs.Common.{◌≡◌, ℕ, ◌+◌, ◌<◌, ◌≤◌, ℤ, Bool, true, false, None, sym, ◌∙◌, arith, inl, inr}
use Rattle.bf_value.specs.declared.name.JobName.{JobName}
use Rattle.bf_xcom.specs.declared.values.Outcome.{Outcome}
use Rattle.bf_core.specs.declared.event.Event.{Event}
use Rattle.bf_core.specs.Clocks.{IsMove}
use Rattle.bf_core.specs.Events.{after, HasEnded}
use Rattle.bf_core.specs.Cores.{Backfill, GoesOn, IsReplay, MayCome, moved}
use Rattle.bf_core.specs.Running.{running_now}
use Rattle.bf_core.proofs.Kept.{replay_shaped}
use Rattle.bf_core.proofs.RunningTries.{running_after, more_running, fewer_running, ends_run}
use Rattle.bf_sched.specs.Choices.{IsStep, IsFirstStep, IsNextMoment, NoStep, NoTry}
use Rattle.bf_sched.specs.Scheduling.{HasComeTo, IsScheduler}

-- how many tries run after an event
running_by : (b : Backfill) → IsReplay b → (e : Event) → MayCome b e →
    running_now (after b.dag b.state e) + fewer_running (λ _. 1) b.dag b.state e ≡ running_now b.state + more_running (λ _. 1) b.dag b.state e
running_by b replayed e able = running_after b.dag b.runs b.state (replay_shaped b replayed) (λ _. 1) b.limits e able.0

pub step_running : (b : Backfill) → IsReplay b → (e : Event) → IsStep e → MayCome b e → running_now (after b.dag b.state e) ≡ running_now b.state
step_running b replayed Event.Open is able = let n : _ = running_by b replayed Event.Open able in omega (arith, n)
step_running b replayed (Event.Settle k t) is able = let n : _ = running_by b replayed (Event.Settle k t) able in omega (arith, n)
step_running b replayed (Event.Expand k t) is able = let n : _ = running_by b replayed (Event.Expand k t) able in omega (arith, n)
step_running b replayed (Event.Close k) is able = let n : _ = running_by b replayed (Event.Close k) able in omega (arith, n)
step_running b replayed (Event.Begin n) is able = absurd (omega (arith, is))
step_running b replayed (Event.End n o) is able = absurd (omega (arith, is))
step_running b replayed (Event.Tick m) is able = absurd (omega (arith, is))

pub tick_running : (b : Backfill) → IsReplay b → (m : ℤ) → MayCome b (Event.Tick m) → running_now (after b.dag b.state (Event.Tick m)) ≡ running_now b.state
tick_running b replayed m able = let n : _ = running_by b replayed (Event.Tick m) able in omega (arith, n)

pub begin_running : (b : Backfill) → IsReplay b → (n : JobName) → MayCome b (Event.Begin n) → running_now (after b.dag b.state (Event.Begin n)) ≡ running_now b.state + 1
begin_running b replayed n able = let m : _ = running_by b replayed (Event.Begin n) able in omega (arith, m)

pub end_running : (b : Backfill) → IsReplay b → (n : JobName) (o : Outcome) → MayCome b (Event.End n o) → running_now (after b.dag b.state (Event.End n o)) + 1 ≡ running_now b.state
end_running b replayed n o able = let m : _ = running_by b replayed (Event.End n o) able in omega (arith, m)

-- the scheduler is kept by an event, where the number of running tries is kept in step
kept : (b new : Backfill) (workers running now : ℕ) (e : Event) → IsScheduler b workers running → new ≡ moved b e →
    now ≡ running_now (after b.dag b.state e) → now ≤ workers → IsScheduler new workers now
kept b new workers running now e is to counted within = rw to (record { counted = counted; within = within })

pub step_keeps : (b new : Backfill) (workers running : ℕ) (e : Event) → IsReplay b → IsScheduler b workers running → IsFirstStep b e → new ≡ moved b e →
    IsScheduler new workers running
step_keeps b new workers running e replayed is first to =
    kept b new workers running running e is to (is.counted ∙ sym (step_running b replayed e first.is_step first.may_come)) is.within

pub tick_keeps : (b new : Backfill) (workers running : ℕ) (m : ℤ) (came : Bool) → IsReplay b → IsScheduler b workers running → HasComeTo b m came new →
    IsScheduler new workers running
tick_keeps b new workers running m true replayed is has =
    let n : _ = tick_running b replayed m has.0 in
    kept b new workers running running (Event.Tick m) is has.1 (omega (arith, n, is.counted)) is.within
tick_keeps b new workers running m false replayed is has = rw has.1 is

pub begin_keeps : (b new : Backfill) (workers running : ℕ) (n : JobName) → IsReplay b → IsScheduler b workers running → MayCome b (Event.Begin n) → running < workers → new ≡ moved b (Event.Begin n) →
    IsScheduler new workers (running + 1)
begin_keeps b new workers running n replayed is able free to =
    let m : _ = begin_running b replayed n able in
    kept b new workers running (running + 1) (Event.Begin n) is to (omega (arith, m, is.counted)) (omega (arith, free))

pub end_keeps : (b new : Backfill) (workers running now : ℕ) (n : JobName) (o : Outcome) → IsReplay b → IsScheduler b workers running → MayCome b (Event.End n o) → now + 1 ≡ running → new ≡ moved b (Event.End n o) →
    IsScheduler new workers now
end_keeps b new workers running now n o replayed is able less to =
    let m : _ = end_running b replayed n o able in
    kept b new workers running now (Event.End n o) is to (omega (arith, m, is.counted, less)) (omega (arith, is.within, less))

-- where no try runs, no step may come and no try may begin, nothing may come but a tick
pub nothing_comes : (b : Backfill) → running_now b.state ≡ 0 → NoStep b → NoTry b → (e : Event) → IsMove e → ¬ (MayCome b e)
nothing_comes b idle none nor Event.Open move able = none Event.Open (omega arith) able
nothing_comes b idle none nor (Event.Settle k t) move able = none (Event.Settle k t) (omega arith) able
nothing_comes b idle none nor (Event.Expand k t) move able = none (Event.Expand k t) (omega arith) able
nothing_comes b idle none nor (Event.Close k) move able = none (Event.Close k) (omega arith) able
nothing_comes b idle none nor (Event.Begin n) move able = nor n able
nothing_comes b idle none nor (Event.End n o) move able = ends_run b.state idle b.dag n able.0.0
nothing_comes b idle none nor (Event.Tick m) move able = move

-- where besides no try waits for a later moment, the backfill has ended
pub has_ended : (b : Backfill) → GoesOn b → running_now b.state ≡ 0 → NoStep b → NoTry b → IsNextMoment b None → HasEnded b.state
has_ended b goes_on idle none nor no_moment = elim goes_on [
  | inl ended ↦ ended
  | inr more ↦ elim more [ inl m ↦ absurd (nothing_comes b idle none nor m.0 m.2 m.1) | inr w ↦ absurd (no_moment w.0 w.1) ]
]
