-- What a turn of the executor does.
use Rattle.std.specs.Prelude.{◌≡◌, ◌⊎◌, ℕ, ℤ, ◌≤ℤ◌, Bool, true, false, List}
use Rattle.std.specs.Int.{int_min}
use Rattle.bf_try.specs.Asked.{Asked, Answered}
use Rattle.bf_try.specs.declared.runner.RunnerFault.TheVariants.{GaveUp}
use Rattle.bf_try.specs.declared.answers.Raw.{Raw}
use Rattle.bf_core.specs.Terms.{Given, JobName}
use Rattle.bf_core.specs.Clocks.{last_moment}
use Rattle.bf_core.specs.Cores.{Backfill}
use Rattle.bf_core.specs.Events.{HasEnded}
use Rattle.bf_sched.specs.Choices.{IsFirstMoment}
use Rattle.bf_sched.specs.Scheduling.{HasBegun, HasFinished, HasStepped, HasTicked, MayFinish, MustWait, Schedule, WaitsUntil}
use Rattle.bf_lane.specs.declared.messages.Answer.{Answer}
use Rattle.bf_lane.specs.declared.messages.Answer.TheVariants.{Done, Gave}
use Rattle.bf_lane.specs.Lanes.{IsNoGivingUp}
use Rattle.bf_lane.specs.Open.{Scheduled}
use Rattle.bf_lane.specs.Rounds.{IsGathered, IsSubmitted}
use Rattle.bf_exec.specs.Accounts.{IsInStep}
use Rattle.bf_exec.specs.declared.turn_fault.TurnFault.{TurnFault}

-- ---- what comes in a turn

-- what may be answered at once may be answered by a worker
abbrev pub AreAmong : (JobName → Given → Raw → Type 0) → (JobName → Given → Raw → Type 0) → Type 0
AreAmong some all = (n : JobName) (g : Given) (r : Raw) → some n g r → all n g r

-- the clock of the backfill has come to the present moment, where that is later than what it showed
pub record HasCaughtUp (now : ℤ) (s t : Schedule) : Type 0 where
  pub came : Bool
  pub ticked : HasTicked s (int_min now last_moment) came t

-- a try has begun, and its ticket was submitted
pub record HasSubmitted (lanes after : List Scheduled) (s t : Schedule) : Type 0 where
  pub at : ℕ
  pub ticket : Asked
  pub sent : IsSubmitted lanes after at ticket
  pub begun : HasBegun s ticket t

-- the try of the ticket, which has begun, has ended by an answer that was there at once
pub record EndsAtOnce (may : JobName → Given → Raw
    → Type 0) (ticket : Asked) (s t : Schedule) : Type 0 where
  pub answer : Answered
  pub is_name : answer.name ≡ ticket.name
  pub is_given : answer.given ≡ ticket.given
  pub may_be : may answer.name answer.given answer.raw
  pub finished : HasFinished s answer t

-- a try has begun, and has ended by an answer that was there at once
pub record HasAnswered (may : JobName → Given → Raw
    → Type 0) (lanes after : List Scheduled) (s t : Schedule) : Type 0 where
  pub ticket : Asked
  pub running : Schedule
  pub begun : HasBegun s ticket running
  pub ended : EndsAtOnce may ticket running t
  pub lanes_are : after ≡ lanes

-- the clock has caught up, and the try of the answer has ended by it
pub record EndsBy (now : ℤ) (answer : Answered) (s t : Schedule) : Type 0 where
  pub present : Schedule
  pub caught_up : HasCaughtUp now s present
  pub finished : HasFinished present answer t

-- an answer was gathered, and its try has ended by it
pub record HasGathered (now : ℤ) (lanes after : List Scheduled) (s t : Schedule) : Type 0 where
  pub at : ℕ
  pub answer : Answered
  pub got : IsGathered lanes after at (Done answer)
  pub ended : EndsBy now answer s t

-- the first moment for which a try waits has come, and no answer before it
pub record HasWaited (now : ℤ) (lanes after : List Scheduled) (s t : Schedule) : Type 0 where
  pub moment : ℤ
  pub is_first : IsFirstMoment s.backfill moment
  pub is_past : moment ≤ℤ now
  pub lanes_are : after ≡ lanes
  pub schedule_is : t ≡ s

-- an answer has ended its try, or the moment came before
abbrev pub EndsWait : ℤ → List Scheduled → List Scheduled → Schedule → Schedule → Type 0
EndsWait now lanes after s t = HasGathered now lanes after s t ⊎ HasWaited now lanes after s t

-- nothing can come before an answer or a later moment
abbrev pub MustAwait : Schedule → Type 0
MustAwait s = MustWait s s ⊎ ((moment : ℤ) × WaitsUntil s moment s)

-- ---- turns

-- the clock has caught up, and then an event has come by itself, or a try has begun that was submitted, or that has ended at once
pub record HasActed (may : JobName → Given → Raw
    → Type 0) (now : ℤ) (lanes after : List Scheduled) (s t : Schedule) : Type 0 where
  pub present : Schedule
  pub caught_up : HasCaughtUp now s present
  pub acted : ((after ≡ lanes) × HasStepped present t)
      ⊎ (HasSubmitted lanes after present t ⊎ HasAnswered may lanes after present t)

-- the clock has caught up, nothing could come, and then a try has ended by its answer, or the moment has come that was waited for
pub record HasAwaited (now : ℤ) (lanes after : List Scheduled) (s t : Schedule) : Type 0 where
  pub before : ℤ
  pub present : Schedule
  pub caught_up : HasCaughtUp before s present
  pub must : MustAwait present
  pub awaited : EndsWait now lanes after present t

-- the clock has caught up, and all has ended
pub record FindsEnded (now : ℤ) (lanes after : List Scheduled) (s t : Schedule) : Type 0 where
  pub caught_up : HasCaughtUp now s t
  pub ended : HasEnded t.backfill.state
  pub lanes_are : after ≡ lanes

abbrev pub IsTurn : (JobName → Given → Raw → Type 0) → ℤ → List Scheduled → List Scheduled
    → Schedule → Schedule → Bool → Type 0
IsTurn may now lanes after s t true =
    HasActed may now lanes after s t ⊎ HasAwaited now lanes after s t
IsTurn may now lanes after s t false = FindsEnded now lanes after s t

-- the lanes and the backfill are in step
abbrev pub AreInStep : List Scheduled → Schedule → Type 0
AreInStep lanes s = IsInStep lanes s.backfill s.workers

-- ---- halts

-- no try that runs has the name of the answer, with what was given to it
pub record IsStrange (answer : Answered) (s t : Schedule) : Type 0 where
  pub now : ℤ
  pub caught_up : HasCaughtUp now s t
  pub refused : ¬ (MayFinish t.backfill answer)

-- a giving up of this try was gathered
pub record GaveUpOn (lanes after : List Scheduled) (n : JobName) : Type 0 where
  pub at : ℕ
  pub asked : Asked
  pub got : IsGathered lanes after at (Gave asked GaveUp)
  pub is_named : asked.name ≡ n

-- lanes that were in step have gathered an answer of no try that runs with what was given to it
pub record HasStranger (lanes after : List Scheduled) : Type 0 where
  pub at : ℕ
  pub answer : Answered
  pub backfill : Backfill
  pub workers : ℕ
  pub in_step : IsInStep lanes backfill workers
  pub got : IsGathered lanes after at (Done answer)
  pub refused : ¬ (MayFinish backfill answer)

-- an answer was gathered by which no try is given up
pub record HasGatheredOther (lanes after : List Scheduled) : Type 0 where
  pub at : ℕ
  pub answer : Answer
  pub got : IsGathered lanes after at answer
  pub is_other : IsNoGivingUp answer

-- memory was wanting before a try was given up, or the try that is named was gathered as given up, or a stranger was gathered
abbrev pub IsHaltOf : List Scheduled → List Scheduled → TurnFault → Type 0
IsHaltOf lanes after TurnFault.OutOfMemory = (after ≡ lanes) ⊎ HasGatheredOther lanes after
IsHaltOf lanes after (TurnFault.Runner n) = GaveUpOn lanes after n
IsHaltOf lanes after TurnFault.Stranger = HasStranger lanes after
