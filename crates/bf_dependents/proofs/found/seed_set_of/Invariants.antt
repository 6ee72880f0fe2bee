use Rattle.std.proofs.Common.{◌≡◌, take}
use Rattle.std.specs.BTreeMap.{is_at}
use Rattle.std.specs.List.{list_any}
use Rattle.bf_dependents.specs.declared.place.Place.{Place}
use Rattle.bf_dependents.specs.Places.{place_cmp}
use Rattle.bf_dependents.proofs.found.seed_set_of.Given as goal

-- so far the set finds what the seeds have
abbrev pub invariant-loop-seed : goal.invariant-loop-seed
invariant-loop-seed l = (q : Place) → list_any (is_at (place_cmp q)) l.held.keys ≡ list_any (is_at (place_cmp q)) (take l.seed-index l.seeds)
