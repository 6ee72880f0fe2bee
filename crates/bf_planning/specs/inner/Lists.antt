-- What the command `list` prints: the data intervals of a graph's schedule that start in a range.
use Rattle.std.specs.Prelude.{pos, ◌≤ℤ◌}
use Rattle.bf_interval.specs.declared.interval.Interval.{Interval}

-- neither its start nor its end lies before 1970
abbrev pub IsSince1970 : Interval → Type 0
IsSince1970 i = (pos 0 ≤ℤ i.start.nanosecond) × (pos 0 ≤ℤ i.end.nanosecond)
