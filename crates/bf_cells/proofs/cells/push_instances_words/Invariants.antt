use Rattle.std.proofs.Common.{◌≡◌, ◌++◌, string_bytes, take}
use Rattle.std.specs.List.{flat_map}
use Rattle.bf_cells.specs.inner.Rows.{word_behind}
use Rattle.bf_cells.proofs.cells.push_instances_words.Given as goal

abbrev pub invariant-loop-task : goal.invariant-loop-task
invariant-loop-task l = string_bytes l.text ≡ string_bytes l.fn.text ++ flat_map word_behind (take l.task-index l.settled)
