-- The data intervals of a schedule in a range.
use Rattle.std.specs.Prelude.{◌≡◌, ◌≢◌, true, List, [], Result, Ok, Err}
use Rattle.jiff.specs.Types.{TimeZone}
use Rattle.bf_cron.specs.declared.spec.CronSpec.{CronSpec}
use Rattle.bf_interval.specs.Intervals.{IsAnswer}
use Rattle.bf_interval.specs.declared.fault.IntervalFault.{IntervalFault}
use Rattle.bf_interval.specs.declared.interval.Interval.{Interval}
use Rattle.bf_days.specs.Listing.{IsAnswerOn}
use Rattle.bf_command_fault.specs.declared.range.RangeFault.{RangeFault}
use Rattle.bf_command_fault.specs.declared.range.RangeFault.TheVariants.{NoRuns, Unlisted}
use Rattle.bf_planning.specs.declared.range.RunRange.{RunRange}
use Rattle.bf_planning.specs.declared.range.Starts.{Starts}
use Rattle.bf_planning.specs.declared.range.Starts.TheVariants.{Between, On}

-- the data intervals that start there, or the first fault
abbrev pub IsStartsAnswer : CronSpec → TimeZone → Starts → Result (List Interval) IntervalFault
    → Type 0
IsStartsAnswer schedule zone (Between range) answer =
    IsAnswer schedule zone range.from.nanosecond range.to.nanosecond answer
IsStartsAnswer schedule zone (On days) answer = IsAnswerOn schedule zone days answer

-- the data intervals of the range, or its first fault; where there have to be some and are none, that is refused
abbrev pub IsRangeAnswer : CronSpec → TimeZone → RunRange → Result (List Interval) RangeFault
    → Type 0
IsRangeAnswer schedule zone range (Ok found) =
    IsStartsAnswer schedule zone range.starts (Ok found) × (range.some ≡ true → found ≢ [])
IsRangeAnswer schedule zone range (Err (Unlisted fault)) =
    IsStartsAnswer schedule zone range.starts (Err fault)
IsRangeAnswer schedule zone range (Err NoRuns) =
    (range.some ≡ true) × IsStartsAnswer schedule zone range.starts (Ok [])
