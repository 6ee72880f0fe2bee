use Rattle.std.proofs.Common.{◌≡◌, take}
use Rattle.bf_graph.specs.Shape.{texts}
use Rattle.bf_check.specs.Checking.{ids_of}
use Rattle.bf_check.proofs.edges.id_strings_of.Given as goal

abbrev pub invariant-loop-task : goal.invariant-loop-task
invariant-loop-task l = texts l.ids.items ≡ ids_of (take l.task-index l.tasks)
