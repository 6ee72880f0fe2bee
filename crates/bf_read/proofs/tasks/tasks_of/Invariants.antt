use Rattle.std.proofs.Common.{◌≡◌, [], drop}
use Rattle.serde_json.specs.View.{items_view}
use Rattle.bf_read.specs.Reading.{tasks_from}
use Rattle.bf_read.proofs.TaskLemmas.{KeepsTasks}
use Rattle.bf_read.proofs.tasks.tasks_of.Given as goal

abbrev pub invariant-loop-n : goal.invariant-loop-n
invariant-loop-n l = record {
  read : tasks_from l.tasks.items l.n (items_view (drop l.n l.items)) ≡ tasks_from [] 0 (items_view l.items);
  kept : KeepsTasks l.n l.tasks.items;
}
