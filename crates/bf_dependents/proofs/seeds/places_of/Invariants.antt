use Rattle.std.proofs.Common.{◌≡◌, Some, None, false, if◌then◌else◌, take}
use Rattle.bf_dependents.specs.Seeds.{places_in, seed_fault}
use Rattle.bf_dependents.specs.declared.fault.ClearFault.TheVariants.{UnknownRun}
use Rattle.bf_dependents.proofs.seeds.places_of.Given as goal

abbrev pub invariant-loop-seed : goal.invariant-loop-seed
invariant-loop-seed l =
    (seed_fault l.plan.dag l.intervals (take l.seed-index l.seeds) ≡ (if l.is_run_unknown then Some UnknownRun else None))
    × (l.is_run_unknown ≡ false → l.places.items ≡ places_in l.plan.dag l.intervals (take l.seed-index l.seeds))
