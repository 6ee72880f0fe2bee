use Rattle.std.proofs.Common.{◌≡◌, ◌≤◌, length, take}
use Rattle.bf_grid.specs.GridRows.{trimmed_of}
use Rattle.bf_grid.proofs.row.trimmed.Given as goal

abbrev pub invariant-loop-end : goal.invariant-loop-end
invariant-loop-end l = (trimmed_of (take l.end l.line) ≡ trimmed_of l.line) × (l.end ≤ length l.line)

abbrev pub decreases-loop-end : goal.decreases-loop-end
decreases-loop-end l = l.end
