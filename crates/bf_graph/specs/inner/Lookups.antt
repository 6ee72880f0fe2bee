-- What is looked up in a graph.
use Rattle.std.specs.Prelude.{◌≡◌, ◌<◌, ℕ, List, length}
use Rattle.bf_graph.specs.Edges.{IsUpstream}
use Rattle.bf_graph.specs.Lookups.{IsRisingListOf, downstreams_of}

-- ---- while they are found

-- the tasks below n of which each is a direct upstream
pub record AreDownstreamsBelow (ups : List (List ℕ)) (n : ℕ) (downs : List (List ℕ)) : Type 0 where
  pub len : length downs ≡ length ups
  pub each : (t : ℕ) → t < length ups
      → IsRisingListOf (λ d. (d < n) × IsUpstream ups t d) (downstreams_of downs t)
