use Rattle.std.proofs.Common.{◌≡◌}
use Rattle.bf_dependents.specs.Listing.{places_of_run, up_to}
use Rattle.bf_dependents.proofs.found.Followers.places.Given as goal

abbrev pub invariant-loop-run : goal.invariant-loop-run
invariant-loop-run l = l.places.items ≡ up_to (places_of_run l.plan.dag l.self l.tasks) l.run
