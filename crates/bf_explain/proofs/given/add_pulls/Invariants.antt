use Rattle.std.proofs.Common.{◌≡◌, ◌++◌, map, take}
use Rattle.bf_explain.specs.Beside.{pull_line_of}
use Rattle.bf_explain.proofs.given.add_pulls.Given as goal

abbrev pub invariant-loop-pull : goal.invariant-loop-pull
invariant-loop-pull l = l.lines.items ≡ l.fn.lines.items ++ map pull_line_of (take l.pull-index l.pulls)
