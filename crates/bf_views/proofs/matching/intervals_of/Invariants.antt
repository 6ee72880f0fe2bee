use Rattle.std.proofs.Common.{◌≡◌, take}
use Rattle.bf_views.specs.Matching.{intervals_in}
use Rattle.bf_views.proofs.matching.intervals_of.Given as goal

abbrev pub invariant-loop-run : goal.invariant-loop-run
invariant-loop-run l = l.intervals.items ≡ intervals_in (take l.run-index l.runs)
