use Rattle.std.proofs.Common.{◌≡◌, ◌++◌, string_bytes}
use Rattle.bf_answers.specs.Answers.{tasks_entries}
use Rattle.bf_answers.specs.TableText.{entry_lines}
use Rattle.bf_answers.proofs.table.push_tasks.Given as goal

abbrev pub invariant-loop-id : goal.invariant-loop-id
invariant-loop-id l = string_bytes l.fn.text ++ entry_lines (tasks_entries l.run l.ids l.tasks) ≡ string_bytes l.text ++ entry_lines (tasks_entries l.run l.id-iterator.a.rest.now l.id-iterator.b.rest.now)
