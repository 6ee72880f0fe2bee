use Rattle.std.proofs.Common.{◌≡◌, ◌++◌, take}
use Rattle.bf_report.specs.Report.{mapped_text}
use Rattle.bf_report.proofs.lines.push_mapped.Given as goal

abbrev pub invariant-loop-index : goal.invariant-loop-index
invariant-loop-index l = l.text ≡ l.fn.text ++ mapped_text l.id (take l.index l.instances)
