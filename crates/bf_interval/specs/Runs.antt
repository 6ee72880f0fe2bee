-- The data intervals that runs have.
use Rattle.std.specs.Prelude.{◌≡◌, ◌≤◌, ◌*◌, ◌⊎◌, ℕ, ℤ, pos, ◌≤ℤ◌, ◌<ℤ◌, List, [], ◌∷◌, length, All, AllPairs, Ok}
use Rattle.jiff.specs.declared.timestamp.Timestamp.{Timestamp}
use Rattle.bf_cron.specs.declared.spec.CronSpec.{CronSpec}
use Rattle.bf_cron.specs.Cron.{IsRead, schedule_of}
use Rattle.bf_interval.specs.Years.{IsInYears}
use Rattle.bf_interval.specs.declared.interval.Interval.{Interval}
use Rattle.bf_interval.specs.declared.fault.IntervalFault.{IntervalFault}
use Rattle.bf_interval.specs.declared.fault.IntervalFault.TheVariants.{OutsideYears, OutOfMemory}

-- a whole second from 1970-01-01T00:00:00Z to 2208-12-31T23:59:59Z
pub record IsSecondTo2208 (n : ℤ) : Type 0 where
  pub second : ℕ
  pub is : n ≡ pos (second * 1_000_000_000)
  pub to_2208 : second ≤ 7_542_115_199

-- a run's data interval starts in the years, doesn't end before it starts, and its moments are whole seconds up to 2208
pub record IsOfRun (i : Interval) : Type 0 where
  pub in_years : IsInYears i.start.nanosecond
  pub in_order : i.start.nanosecond ≤ℤ i.end.nanosecond
  pub start : IsSecondTo2208 i.start.nanosecond
  pub end : IsSecondTo2208 i.end.nanosecond

-- the data intervals of the runs of a backfill, in order of date
pub record AreOfRuns (intervals : List Interval) : Type 0 where
  pub few : length intervals ≤ 4_096
  pub each : All IsOfRun intervals
  pub rising : AllPairs (λ interval later. interval.start.nanosecond <ℤ later.start.nanosecond)
      intervals

-- some text says the schedule
abbrev pub IsSaid : CronSpec → Type 0
IsSaid spec = (text : List ℕ) × IsRead (schedule_of text) (Ok spec)

-- the one interval of a run at a moment
abbrev pub intervals_at : Timestamp → List Interval
intervals_at at = record { start = at; end = at } ∷ []

-- why there is no run at a moment
abbrev pub IsNoRunAt : Timestamp → IntervalFault → Type 0
IsNoRunAt at fault = ((fault ≡ OutsideYears) × ¬ (IsInYears at.nanosecond)) ⊎ (fault ≡ OutOfMemory)
