use Rattle.std.proofs.Common.{◌≡◌, ◌++◌}
use Rattle.bf_report.specs.Dated.{pulls_in}
use Rattle.bf_report.specs.Values.{AreSoundPulls}
use Rattle.bf_report.proofs.instances.pulls_of.Given as goal

abbrev pub invariant-loop-task : goal.invariant-loop-task
invariant-loop-task l = record {
  pulls : pulls_in l.dag l.tasks l.values ≡ l.pulls.items ++ pulls_in l.dag l.task-iterator.a.rest.now l.task-iterator.b.rest.now;
  sound : AreSoundPulls l.pulls.items;
}
