use Rattle.std.proofs.Common.{◌+◌, ◌-◌, ℕ, List, All, length}
use Rattle.bf_report.specs.LongTexts.{IsShownIn}
use Rattle.bf_report.proofs.long_text.note_shown.Given as goal

abbrev pub invariant-loop-shown : goal.invariant-loop-shown
invariant-loop-shown l = (held : List ℕ) → All (IsShownIn held) l.fn.shown.items → IsShownIn held l.last → All (IsShownIn held) l.shown.items

abbrev pub decreases-loop-shown : goal.decreases-loop-shown
decreases-loop-shown l = l.number + 1 - length l.shown.items
