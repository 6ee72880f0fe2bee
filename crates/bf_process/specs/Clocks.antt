-- What clocks show at the moments of runs, as if they were those of UTC.
use Rattle.std.specs.Prelude.{ℕ, ℤ, ◌+ℤ◌, List, ◌++◌, slice_get, unwrap_or}
use Rattle.jiff.specs.Types.{TimeZone}
use Rattle.jiff.specs.Words.{nanos_of_seconds, offset_at}
use Rattle.bf_moment.specs.Calendar.{year_on, month_on, day_on}
use Rattle.bf_moment.specs.Moment.{day_of, four, two}
use Rattle.bf_words.specs.declared.context.JobContext.{JobContext}

-- a clock of the zone at a moment
abbrev pub clock_in : TimeZone → ℤ → ℤ
clock_in zone n = n +ℤ nanos_of_seconds (offset_at zone n)

-- the clock of a run by its number; without one a clock of UTC
abbrev pub clock_of : List ℤ → ℕ → JobContext → ℤ
clock_of clocks run try = unwrap_or (slice_get clocks run) try.data_interval_start.at.nanosecond

-- the date of a moment, as 20240304
abbrev pub date_digits : ℤ → List ℕ
date_digits n = four (year_on (day_of n)) ++ (two (month_on (day_of n)) ++ two (day_on (day_of n)))
