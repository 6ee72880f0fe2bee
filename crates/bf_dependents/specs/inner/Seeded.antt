-- Seeds while they are held.
use Rattle.std.specs.Prelude.{◌≡◌, ◌↔◌, true, List, Contains}
use Rattle.std.specs.BTreeMap.{is_at}
use Rattle.std.specs.List.{list_any}
use Rattle.bf_dependents.specs.declared.place.Place.{Place}
use Rattle.bf_dependents.specs.Places.{place_cmp}

-- they are the seeds, in whatever order
abbrev pub HoldSeeds : List Place → List Place → Type 0
HoldSeeds seeds held = (p : Place) → (list_any (is_at (place_cmp p)) held ≡ true) ↔ Contains seeds p
