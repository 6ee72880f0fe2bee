-- What the lines of runs say.
use Rattle.std.specs.Prelude.{pos, ◌≤ℤ◌}
use Rattle.jiff.specs.declared.timestamp.Timestamp.{Timestamp}
use Rattle.bf_interval.specs.declared.interval.Interval.{Interval}
use Rattle.bf_interval.specs.Years.{IsInYears}
use Rattle.bf_moment.specs.Moment.{IsShown, IsWhole}

-- a moment of whole seconds from 1970 to 2208
pub record IsReportMoment (moment : Timestamp) : Type 0 where
  pub shown : IsShown moment.nanosecond
  pub whole : IsWhole moment.nanosecond
  pub from_1970 : pos 0 ≤ℤ moment.nanosecond
  pub to_2208 : moment.nanosecond ≤ℤ pos 7_542_115_199_000_000_000

-- a run starts from 1970 to 2199, and doesn't end before
pub record IsRunInterval (interval : Interval) : Type 0 where
  pub start : IsReportMoment interval.start
  pub end : IsReportMoment interval.end
  pub in_years : IsInYears interval.start.nanosecond
  pub in_order : interval.start.nanosecond ≤ℤ interval.end.nanosecond
