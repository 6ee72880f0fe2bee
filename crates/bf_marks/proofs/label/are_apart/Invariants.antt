use Rattle.std.proofs.Common.{◌≡◌, ◌∷◌, drop}
use Rattle.bf_marks.specs.Labels.{are_apart_in, seconds_of}
use Rattle.bf_marks.proofs.LabelFacts.{moments}
use Rattle.bf_marks.proofs.label.are_apart.Given as goal

abbrev pub invariant-loop-start : goal.invariant-loop-start
invariant-loop-start l = are_apart_in (seconds_of l.seconds) (moments l.starts) ≡ are_apart_in (seconds_of l.seconds) (l.before.at.nanosecond ∷ moments (drop l.start-index l.rest))
