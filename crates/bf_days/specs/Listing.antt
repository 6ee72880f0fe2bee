-- The data intervals that start on civil days.
use Rattle.std.specs.Prelude.{◌≡◌, ℕ, ◌+◌, ◌<◌, ◌≤◌, ℤ, pos, ◌<ℤ◌, ◌≤ℤ◌, true, Bool, List, ◌++◌, length, map, take, filter, Contains, All, AllPairs, ◌⊎◌, Result, Ok, Err}
use Rattle.jiff.specs.Types.{TimeZone}
use Rattle.bf_cron.specs.declared.spec.CronSpec.{CronSpec}
use Rattle.bf_interval.specs.Years.{IsInYears}
use Rattle.bf_interval.specs.Fires.{IsInterval}
use Rattle.bf_interval.specs.Intervals.{ends}
use Rattle.bf_interval.specs.declared.interval.Interval.{Interval}
use Rattle.bf_interval.specs.declared.fault.IntervalFault.{IntervalFault}
use Rattle.bf_interval.specs.declared.fault.IntervalFault.TheVariants.{OutsideYears, RangeReversed, TooManyRuns, OutOfMemory}
use Rattle.bf_days.specs.declared.days.Days.{Days}
use Rattle.bf_days.specs.Days.{is_on_day, IsDayInYears}

-- a data interval of the years at whose start a clock of the zone shows one of the days
abbrev pub StartsOn : CronSpec → TimeZone → Days → ℤ × ℤ → Type 0
StartsOn spec zone days (start, end) =
    IsInterval spec zone start end × IsInYears start × (is_on_day zone days start ≡ true)

-- the data intervals that start on the days: all of them, in order
pub record AreIntervalsOn (spec : CronSpec) (zone : TimeZone) (days : Days)
    (found : List Interval) : Type 0 where
  pub rising : AllPairs (λ i j. i.start.nanosecond <ℤ j.start.nanosecond) found
  pub each : All (λ i. StartsOn spec zone days (ends i)) found
  pub all : (interval : ℤ × ℤ) → StartsOn spec zone days interval
      → Contains (map ends found) interval

-- there are at least n of them
pub record HasIntervalsOn (spec : CronSpec) (zone : TimeZone) (days : Days) (n : ℕ) : Type 0 where
  pub at : ℕ → ℤ × ℤ
  pub each : (i : ℕ) → i < n → StartsOn spec zone days (at i)
  pub rising : (i : ℕ) → i + 1 < n → (at i).0 <ℤ (at (i + 1)).0

-- days of the years, the first not after the last
pub record AreDays (days : Days) : Type 0 where
  pub first_in_years : IsDayInYears days.first
  pub last_in_years : IsDayInYears days.last
  pub in_order : days.first ≤ℤ days.last

-- the data intervals that start on the days, or the first fault that the days have
abbrev pub IsAnswerOn : CronSpec → TimeZone → Days → Result (List Interval) IntervalFault → Type 0
IsAnswerOn spec zone days (Ok found) =
    AreDays days × (length found ≤ 4_096) × AreIntervalsOn spec zone days found
IsAnswerOn spec zone days (Err OutsideYears) =
    ¬ (IsDayInYears days.first) ⊎ ¬ (IsDayInYears days.last)
IsAnswerOn spec zone days (Err RangeReversed) =
    IsDayInYears days.first × IsDayInYears days.last × (days.last <ℤ days.first)
IsAnswerOn spec zone days (Err TooManyRuns) = AreDays days × HasIntervalsOn spec zone days 4_097
IsAnswerOn spec zone days (Err OutOfMemory) = Unit {0}

-- those of them that start from low on and before high, all of them, in order
pub record AreIntervalsBetween (spec : CronSpec) (zone : TimeZone) (days : Days) (low high : ℕ)
    (found : List Interval) : Type 0 where
  pub rising : AllPairs (λ i j. i.start.nanosecond <ℤ j.start.nanosecond) found
  pub each : All (λ i. StartsOn spec zone days (ends i)) found
  pub before : All (λ i. i.start.nanosecond <ℤ pos high) found
  pub all : (interval : ℤ × ℤ) → StartsOn spec zone days interval → pos low ≤ℤ interval.0
      → interval.0 <ℤ pos high → Contains (map ends found) interval

-- of the first intervals so many pass the test that they are too many behind those before
pub record Overflows (test : Interval → Bool) (before listed : List Interval) : Type 0 where
  pub some : Interval
  pub n : ℕ
  pub within : n ≤ length listed
  pub many : length (before ++ filter test (take n listed)) ≡ 4_097
