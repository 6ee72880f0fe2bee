use Rattle.std.proofs.Common.{◌≡◌, map, take}
use Rattle.std.specs.List.{position}
use Rattle.std.specs.Str.{bytes_eq}
use Rattle.bf_core.specs.Terms.{Task}
use Rattle.bf_clear.proofs.aligning.places_of.Given as goal

abbrev pub invariant-loop-task : goal.invariant-loop-task
invariant-loop-task l = l.places.items ≡ map (λ (task : Task). position (bytes_eq task.id) l.ids) (take l.task-index l.tasks)
