-- The data intervals that start on civil days.
use Rattle.std.specs.Prelude.{Bool, List}
use Rattle.jiff.specs.Types.{TimeZone}
use Rattle.bf_cron.specs.declared.spec.CronSpec.{CronSpec}
use Rattle.bf_interval.specs.declared.interval.Interval.{Interval}
use Rattle.bf_interval.specs.declared.fault.IntervalFault.{IntervalFault}
use Rattle.bf_interval.specs.declared.fault.IntervalFault.TheVariants.{TooManyRuns, OutOfMemory}
use Rattle.bf_days.specs.declared.days.Days.{Days}
use Rattle.bf_days.specs.Days.{is_on_day}
use Rattle.bf_days.specs.Listing.{HasIntervalsOn, Overflows}

-- the interval starts on one of the days
abbrev pub are_on : TimeZone → Days → Interval → Bool
are_on zone days i = is_on_day zone days i.start.nanosecond

-- why intervals that pass the test aren't added to those before
abbrev pub IsKeptFault : (Interval → Bool) → List Interval → List Interval → IntervalFault → Type 0
IsKeptFault test before listed TooManyRuns = Overflows test before listed
IsKeptFault test before listed OutOfMemory = Unit {0}
IsKeptFault test before listed other = ⊥

-- why the data intervals on the days aren't listed
abbrev pub IsAddFault : CronSpec → TimeZone → Days → IntervalFault → Type 0
IsAddFault spec zone days TooManyRuns = HasIntervalsOn spec zone days 4_097
IsAddFault spec zone days OutOfMemory = Unit {0}
IsAddFault spec zone days other = ⊥
