use Rattle.std.proofs.Common.{◌≡◌, ◌++◌, length}
use Rattle.bf_marks.specs.Labels.{counted, groups_of, groups_text}
use Rattle.bf_marks.proofs.LabelFacts.{moments}
use Rattle.bf_marks.proofs.label.push_groups.Given as goal

abbrev pub invariant-loop-first : goal.invariant-loop-first
invariant-loop-first l = l.text.items ++ groups_text l.scale (counted (groups_of l.scale (moments l.rest))) ≡ l.fn.text.items ++ groups_text l.scale (counted (groups_of l.scale (moments l.starts)))

abbrev pub decreases-loop-first : goal.decreases-loop-first
decreases-loop-first l = length l.rest
