use Rattle.std.proofs.Common.{◌≡◌, ◌++◌}
use Rattle.bf_report.specs.Report.{tasks_text}
use Rattle.bf_report.proofs.lines.push_tasks.Given as goal

abbrev pub invariant-loop-id : goal.invariant-loop-id
invariant-loop-id l = l.fn.text ++ tasks_text l.ids l.tasks ≡ l.text ++ tasks_text l.id-iterator.a.rest.now l.id-iterator.b.rest.now
