use Rattle.std.proofs.Common.{◌≡◌, map, take}
use Rattle.bf_journal.specs.Heads.{interval_value}
use Rattle.bf_journal.proofs.head.value_of_intervals.Given as goal

abbrev pub invariant-loop-interval : goal.invariant-loop-interval
invariant-loop-interval l = l.intervals.items ≡ map interval_value (take l.interval-index l.runs)
