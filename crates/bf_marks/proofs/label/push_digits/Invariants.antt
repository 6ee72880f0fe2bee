use Rattle.std.proofs.Common.{◌≡◌, ◌++◌, take}
use Rattle.bf_marks.specs.Labels.{digits_at}
use Rattle.bf_marks.proofs.LabelFacts.{moments}
use Rattle.bf_marks.proofs.label.push_digits.Given as goal

abbrev pub invariant-loop-start : goal.invariant-loop-start
invariant-loop-start l = l.text.items ≡ l.fn.text.items ++ digits_at l.place (moments (take l.start-index l.starts))
