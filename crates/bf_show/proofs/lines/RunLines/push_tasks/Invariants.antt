use Rattle.std.proofs.Common.{◌≡◌, ◌++◌, string_bytes}
use Rattle.bf_show.specs.JsonLines.{tasks_lines}
use Rattle.bf_show.proofs.lines.RunLines.push_tasks.Given as goal

abbrev pub invariant-loop-id : goal.invariant-loop-id
invariant-loop-id l = string_bytes l.fn.text ++ tasks_lines l.self.run.now l.ids l.tasks ≡ string_bytes l.text ++ tasks_lines l.self.run.now l.id-iterator.a.rest.now l.id-iterator.b.rest.now
