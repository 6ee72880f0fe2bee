-- Lanes over which nothing has gone.
use Rattle.std.specs.Prelude.{◌≡◌, List, [], ◌∷◌}
use Rattle.bf_lane.specs.Open.{Scheduled, scheduled}

-- nothing has gone over the lanes
abbrev pub AreUnused : List Scheduled → Type 0
AreUnused [] = Unit {0}
AreUnused (lane ∷ lanes) = (lane ≡ scheduled [] []) × AreUnused lanes
