-- What the scheduler does.
use Rattle.std.specs.Prelude.{◌≡◌, ◌≢◌, ◌⊎◌, ℕ, ◌<◌, ◌≤◌, ℤ, Bool, true, false}
use Rattle.bf_value.specs.declared.name.JobName.{JobName}
use Rattle.bf_try.specs.Asked.{Asked, Answered}
use Rattle.bf_try.specs.Grades.{grade_of}
use Rattle.bf_core.specs.declared.event.Event.{Event}
use Rattle.bf_core.specs.declared.event.Illegal.{Illegal}
use Rattle.bf_core.specs.declared.state.Phase.{Phase}
use Rattle.bf_core.specs.Clocks.{IsMove}
use Rattle.bf_core.specs.Events.{HasEnded, IsPresent, cell_at, given_in, place_in}
use Rattle.bf_core.specs.Cores.{Backfill, IsRefusal, MayCome, moved}
use Rattle.bf_core.specs.Running.{running_now}
use Rattle.bf_sched.specs.Choices.{IsFirstMoment, IsFirstStep, IsFirstTry, NoStep, NoTry}
use Rattle.bf_sched.specs.declared.next.Next.{Next}

-- a backfill, and how many workers there are
pub record Schedule : Type 0 where
  pub backfill : Backfill
  pub workers : ℕ

-- the schedule after one more event
abbrev pub moved_on : Schedule → Event → Schedule
moved_on schedule event = record schedule { backfill = moved schedule.backfill event }

-- ---- what comes next

-- one event has come that comes by itself: the first
pub record HasStepped (old new : Schedule) : Type 0 where
  pub event : Event
  pub is_first : IsFirstStep old.backfill event
  pub new_is : new ≡ moved_on old event

-- the ticket of a try that begins has its name, and what its instance is given
abbrev pub IsTicketOf : Backfill → JobName → Asked → Type 0
IsTicketOf backfill name ticket =
    (ticket.name ≡ name) × (ticket.given
    ≡ given_in (cell_at backfill.state name.run name.task) (place_in backfill.dag name))

-- no step may come; the first try has begun, and this is its ticket
pub record HasBegun (old : Schedule) (ticket : Asked) (new : Schedule) : Type 0 where
  pub no_step : NoStep old.backfill
  pub worker_free : running_now old.backfill.state < old.workers
  pub is_first : IsFirstTry old.backfill ticket.name
  pub is_ticket : IsTicketOf old.backfill ticket.name ticket
  pub new_is : new ≡ moved_on old (Event.Begin ticket.name)

-- no step may come, a try runs, and each worker has one or no other may begin
pub record MustWait (old new : Schedule) : Type 0 where
  pub no_step : NoStep old.backfill
  pub some_run : 0 < running_now old.backfill.state
  pub none_begins : (old.workers ≤ running_now old.backfill.state) ⊎ NoTry old.backfill
  pub new_is : new ≡ old

-- no try runs, and nothing may come but a tick; this is the first moment for which a try waits
pub record WaitsUntil (old : Schedule) (moment : ℤ) (new : Schedule) : Type 0 where
  pub idle : running_now old.backfill.state ≡ 0
  pub none_comes : (event : Event) → IsMove event → ¬ (MayCome old.backfill event)
  pub is_first : IsFirstMoment old.backfill moment
  pub new_is : new ≡ old

abbrev pub IsNext : Schedule → Next → Schedule → Type 0
IsNext old Next.Stepped new = HasStepped old new
IsNext old (Next.Go ticket) new = HasBegun old ticket new
IsNext old Next.Wait new = MustWait old new
IsNext old (Next.Until moment) new = WaitsUntil old moment new
IsNext old Next.Ended new = HasEnded old.backfill.state × (new ≡ old)

-- the clock has come to the moment, where it may; else all is as it was
abbrev pub HasComeTo : Backfill → ℤ → Bool → Backfill → Type 0
HasComeTo old moment true new =
    MayCome old (Event.Tick moment) × (new ≡ moved old (Event.Tick moment))
HasComeTo old moment false new = ¬ (MayCome old (Event.Tick moment)) × (new ≡ old)

-- so it is with the backfill, and the workers are as many
abbrev pub HasTicked : Schedule → ℤ → Bool → Schedule → Type 0
HasTicked old moment came new =
    HasComeTo old.backfill moment came new.backfill × (new.workers ≡ old.workers)

-- ---- answers

-- the end of the try of an answer, with the answer's grade
abbrev pub end_of : Backfill → Answered → Event
end_of backfill done = Event.End done.name (grade_of backfill.dag done.name.task done.raw)

-- where the try runs, its answer has what was given to it
abbrev pub IsSameGiven : Backfill → Answered → Type 0
IsSameGiven backfill done =
    IsPresent backfill.dag backfill.state done.name Phase.Running
    → given_in (cell_at backfill.state done.name.run done.name.task)
    (place_in backfill.dag done.name) ≡ done.given

-- the try runs, and its answer has what was given to it
abbrev pub MayFinish : Backfill → Answered → Type 0
MayFinish backfill done = MayCome backfill (end_of backfill done) × IsSameGiven backfill done

-- the try has ended with the grade of its answer
abbrev pub HasFinished : Schedule → Answered → Schedule → Type 0
HasFinished old done new =
    MayFinish old.backfill done × (new ≡ moved_on old (end_of old.backfill done))

-- an answer is refused as the end of its try is; or it is a stranger, for what was given to its try is another
abbrev pub IsRefused : Backfill → Answered → Illegal → Type 0
IsRefused backfill done fault =
    IsRefusal backfill (end_of backfill done) fault
    ⊎ ((fault ≡ Illegal.Stranger) × IsPresent backfill.dag backfill.state done.name Phase.Running
    × (given_in (cell_at backfill.state done.name.run done.name.task)
    (place_in backfill.dag done.name) ≢ done.given))

-- ---- what a scheduler keeps

pub record IsScheduler (backfill : Backfill) (workers running : ℕ) : Type 0 where
  pub counted : running ≡ running_now backfill.state
  pub within : running ≤ workers
