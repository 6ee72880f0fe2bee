use Rattle.std.proofs.Common.{◌≡◌, ◌++◌}
use Rattle.bf_wording.proofs.lines.add_lines.Given as goal

abbrev pub invariant-loop-line : goal.invariant-loop-line
invariant-loop-line l = l.lines.items ≡ l.fn.lines.items ++ l.yielded
