-- What the search for fires keeps.
use Rattle.std.specs.Prelude.{◌≡◌, ℕ, ◌*◌, ◌<◌, ◌≤◌, ℤ, pos, List, Contains, ◌⊎◌, length, ◌+◌, ◌-◌, get_or, Result, Ok, Err}
use Rattle.std.specs.List.{Any}
use Rattle.std.specs.List.Sorted.{IsStrictlyIncreasing}
use Rattle.jiff.specs.Types.{TimeZone}
use Rattle.bf_cron.specs.declared.spec.CronSpec.{CronSpec}
use Rattle.bf_interval.specs.Fires.{IsFire}
use Rattle.bf_interval.specs.Intervals.{ends}
use Rattle.bf_interval.specs.declared.interval.Interval.{Interval}
use Rattle.bf_interval.specs.declared.fault.IntervalFault.{IntervalFault}
use Rattle.bf_interval.specs.declared.fault.IntervalFault.TheVariants.{TooManyRuns, OutOfMemory}

-- the second list has n besides what the first has
pub record Adds (n : ℕ) (old new : List ℕ) : Type 0 where
  pub has : Contains new n
  pub keeps : (m : ℕ) → Contains old m → Contains new m
  pub only : (m : ℕ) → Contains new m → (m ≡ n) ⊎ Contains old m

-- whole seconds as nanoseconds
abbrev pub seconds : ℕ → ℤ
seconds k = pos (k * 1_000_000_000)

-- a fire of a minute from low on and before high
abbrev pub FiresBetween : CronSpec → TimeZone → ℕ → ℕ → ℤ → Type 0
FiresBetween spec zone low high instant =
    (fire : IsFire spec zone instant) × (low ≤ fire.minute) × (fire.minute < high)

-- the fires of those minutes that aren't before `from`, in seconds
pub record Collects (spec : CronSpec) (zone : TimeZone) (low high from : ℕ)
    (found : List ℕ) : Type 0 where
  pub each : (k : ℕ) → Contains found k → (from ≤ k) × FiresBetween spec zone low high (seconds k)
  pub all : (k : ℕ) → from ≤ k → FiresBetween spec zone low high (seconds k) → Contains found k

-- the first fires from `from` on
pub record AreFirst (spec : CronSpec) (zone : TimeZone) (from : ℕ) (found : List ℕ) : Type 0 where
  pub rising : IsStrictlyIncreasing found
  pub each : (k : ℕ) → Contains found k → (from ≤ k) × IsFire spec zone (seconds k)
  pub below : (k m : ℕ) → from ≤ k → IsFire spec zone (seconds k) → Contains found m → k ≤ m
      → Contains found k

-- they go past `to`, or are 4,098, or are all that there are
abbrev pub AreEnough : CronSpec → TimeZone → ℕ → ℕ → List ℕ → Type 0
AreEnough spec zone from to found =
    Any (λ k. to < k) found ⊎ ((4_098 ≤ length found)
    ⊎ ((k : ℕ) → from ≤ k → IsFire spec zone (seconds k) → Contains found k))

-- of numbers that rise, the nth goes past `to` or is the 4,098th, and minutes from the day on give only later ones
pub record IsSettled (found : List ℕ) (to day n : ℕ) : Type 0 where
  pub some : 0 < n
  pub inside : n ≤ length found
  pub early : get_or found (n - 1) 0 + 266_399 < day * 86_400
  pub enough : (to < get_or found (n - 1) 0) ⊎ (4_098 ≤ n)

-- the first fires, each with the next one
pub record ArePairs (fires : List ℕ) (to : ℕ) (found : List Interval) : Type 0 where
  pub inside : 0 < length found → length found < length fires
  pub each : (i : ℕ) (d : Interval) → i < length found
      → ends (get_or found i d) ≡ (seconds (get_or fires i 0), seconds (get_or fires (i + 1) 0))
  pub within : (i : ℕ) → i < length found → get_or fires i 0 ≤ to
  pub few : length found ≤ 4_096

-- all pairs whose first fire isn't after `to`, or more than 4,096 of them
abbrev pub IsPaired : List ℕ → ℕ → Result (List Interval) IntervalFault → Type 0
IsPaired fires to (Ok found) =
    ArePairs fires to found × (length found + 1 < length fires → to < get_or fires (length found) 0)
IsPaired fires to (Err TooManyRuns) =
    (4_097 < length fires) × ((i : ℕ) → i < 4_097 → get_or fires i 0 ≤ to)
IsPaired fires to (Err OutOfMemory) = Unit {0}
IsPaired fires to (Err _) = ⊥
