use Rattle.std.proofs.Common.{◌≡◌, ◌++◌, string_bytes, take}
use Rattle.bf_show.specs.JsonLines.{mapped_lines}
use Rattle.bf_show.proofs.lines.RunLines.push_mapped.Given as goal

abbrev pub invariant-loop-index : goal.invariant-loop-index
invariant-loop-index l = string_bytes l.text ≡ string_bytes l.fn.text ++ mapped_lines l.self.run.now l.id (take l.index l.instances)
