use Rattle.std.proofs.Common.{◌≡◌, ◌+◌, drop}
use Rattle.bf_marks.specs.Labels.{groups_of}
use Rattle.bf_marks.specs.inner.Labels.{same_first}
use Rattle.bf_marks.proofs.LabelFacts.{moments}
use Rattle.bf_marks.proofs.label.count_same_at_front.Given as goal

abbrev pub invariant-loop-place : goal.invariant-loop-place
invariant-loop-place l = same_first l.group (groups_of l.scale (moments l.starts)) ≡ l.place + same_first l.group (groups_of l.scale (moments (drop l.place l.starts)))
