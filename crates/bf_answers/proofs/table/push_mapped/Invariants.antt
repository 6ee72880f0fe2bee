use Rattle.std.proofs.Common.{◌≡◌, ◌++◌, string_bytes, take}
use Rattle.bf_answers.specs.Answers.{mapped_entries}
use Rattle.bf_answers.specs.TableText.{entry_lines}
use Rattle.bf_answers.proofs.table.push_mapped.Given as goal

abbrev pub invariant-loop-index : goal.invariant-loop-index
invariant-loop-index l = string_bytes l.text ≡ string_bytes l.fn.text ++ entry_lines (mapped_entries l.run l.task (take l.index l.instances))
