use Rattle.std.proofs.Common.{◌≡◌, ◌++◌}
use Rattle.bf_dependents.specs.Listing.{places_of_task, up_to}
use Rattle.bf_dependents.proofs.found.Followers.add_run.Given as goal

abbrev pub invariant-loop-task : goal.invariant-loop-task
invariant-loop-task l = l.places.items ≡ l.fn.places.items ++ up_to (places_of_task l.dag l.self l.run) l.task
