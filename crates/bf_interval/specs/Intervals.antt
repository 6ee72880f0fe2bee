-- The data intervals of a range.
use Rattle.std.specs.Prelude.{ℕ, ◌+◌, ◌<◌, ◌≤◌, ℤ, ◌<ℤ◌, ◌≤ℤ◌, List, length, map, Contains, All, AllPairs, ◌⊎◌, Option, Some, None, Result, Ok, Err, codes}
use Rattle.jiff.specs.Types.{TimeZone}
use Rattle.bf_cron.specs.declared.spec.CronSpec.{CronSpec}
use Rattle.bf_moment.specs.Moment.{IsShown}
use Rattle.bf_interval.specs.Years.{IsInYears}
use Rattle.bf_interval.specs.Fires.{IsInterval}
use Rattle.bf_interval.specs.declared.interval.Interval.{Interval}
use Rattle.bf_interval.specs.declared.fault.IntervalFault.{IntervalFault}
use Rattle.bf_interval.specs.declared.fault.IntervalFault.TheVariants.{OutsideYears, RangeReversed, TooManyRuns, OutOfMemory}

-- start and end, in nanoseconds since 1970
abbrev pub ends : Interval → ℤ × ℤ
ends i = (i.start.nanosecond, i.end.nanosecond)

-- both moments have years of four digits
abbrev pub IsShownInterval : Interval → Type 0
IsShownInterval interval = IsShown interval.start.nanosecond × IsShown interval.end.nanosecond

-- a data interval whose start lies in the range
abbrev pub StartsIn : CronSpec → TimeZone → ℤ → ℤ → ℤ × ℤ → Type 0
StartsIn spec zone from to (start, end) =
    IsInterval spec zone start end × (from ≤ℤ start) × (start ≤ℤ to)

-- the data intervals whose start lies in the range: all of them, in order
pub record AreIntervals (spec : CronSpec) (zone : TimeZone) (from to : ℤ)
    (found : List Interval) : Type 0 where
  pub rising : AllPairs (λ i j. i.start.nanosecond <ℤ j.start.nanosecond) found
  pub each : All (λ i. StartsIn spec zone from to (ends i)) found
  pub all : (interval : ℤ × ℤ) → StartsIn spec zone from to interval
      → Contains (map ends found) interval

-- there are at least n of them
pub record HasIntervals (spec : CronSpec) (zone : TimeZone) (from to : ℤ) (n : ℕ) : Type 0 where
  pub at : ℕ → ℤ × ℤ
  pub each : (i : ℕ) → i < n → StartsIn spec zone from to (at i)
  pub rising : (i : ℕ) → i + 1 < n → (at i).0 <ℤ (at (i + 1)).0

-- two moments of the years, the first not after the second
pub record IsRange (from to : ℤ) : Type 0 where
  pub from_in_years : IsInYears from
  pub to_in_years : IsInYears to
  pub in_order : from ≤ℤ to

-- the data intervals of the range, or the first fault that it has
abbrev pub IsAnswer : CronSpec → TimeZone → ℤ → ℤ → Result (List Interval) IntervalFault → Type 0
IsAnswer spec zone from to (Ok found) =
    IsRange from to × (length found ≤ 4_096) × AreIntervals spec zone from to found
IsAnswer spec zone from to (Err OutsideYears) = ¬ (IsInYears from) ⊎ ¬ (IsInYears to)
IsAnswer spec zone from to (Err RangeReversed) = IsInYears from × IsInYears to × (to <ℤ from)
IsAnswer spec zone from to (Err TooManyRuns) =
    IsRange from to × HasIntervals spec zone from to 4_097
IsAnswer spec zone from to (Err OutOfMemory) = Unit {0}

-- the number of the refusal, which want of memory doesn't have
abbrev pub refusal_number_of : IntervalFault → Option ℕ
refusal_number_of OutsideYears = Some 25
refusal_number_of RangeReversed = Some 26
refusal_number_of TooManyRuns = Some 27
refusal_number_of OutOfMemory = None

-- the words
abbrev pub fault_text : IntervalFault → List ℕ
fault_text OutsideYears = codes "outside years"
fault_text RangeReversed = codes "range reversed"
fault_text TooManyRuns = codes "too many runs"
fault_text OutOfMemory = codes "out of memory"
