-- The place that a line names.
use Rattle.std.specs.Prelude.{◌≡◌, ℕ, List, Some}
use Rattle.bf_interval.specs.declared.interval.Interval.{Interval}
use Rattle.bf_plan.specs.declared.plan.Dag.{Dag}
use Rattle.bf_dependents.specs.declared.place.Place.{Place}
use Rattle.bf_dependents.specs.declared.seeds.Seed.{Seed}
use Rattle.bf_dependents.specs.Seeds.{place_in}
use Rattle.bf_seeds.specs.Seeds.{IsSeedOf}

-- ---- lines of a plan and its runs

-- the line is of a seed, whose task and run are known, that names this place
abbrev pub IsPlaceOf : Dag → List Interval → List ℕ → Place → Type 0
IsPlaceOf dag intervals line place =
    (seed : Seed) × IsSeedOf dag intervals line seed × (place_in dag intervals seed ≡ Some place)
