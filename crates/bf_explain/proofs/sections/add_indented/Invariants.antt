use Rattle.std.proofs.Common.{◌≡◌, ◌++◌, map, take}
use Rattle.bf_explain.specs.Sections.{indented_of}
use Rattle.bf_explain.proofs.sections.add_indented.Given as goal

abbrev pub invariant-loop-line : goal.invariant-loop-line
invariant-loop-line l = l.lines.items ≡ l.fn.lines.items ++ map indented_of (take l.line-index l.more)
