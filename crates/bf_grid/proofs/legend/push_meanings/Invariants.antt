use Rattle.std.proofs.Common.{◌≡◌, ◌++◌, drop}
use Rattle.bf_grid.specs.Legend.{legend}
use Rattle.bf_grid.proofs.legend.push_meanings.Given as goal

abbrev pub invariant-loop-place : goal.invariant-loop-place
invariant-loop-place l = l.text.items ++ legend l.colored (drop l.place l.marks) ≡ l.fn.text.items ++ legend l.colored l.marks
