use Rattle.std.proofs.Common.{◌≡◌, string_bytes, take}
use Rattle.bf_planning.specs.Lists.{intervals_text}
use Rattle.bf_planning.proofs.list.text_of_intervals.Given as goal

abbrev pub invariant-loop-interval : goal.invariant-loop-interval
invariant-loop-interval l = string_bytes l.text ≡ intervals_text (take l.interval-index l.intervals)
