-- What is looked up in a graph.
use Rattle.std.specs.Prelude.{◌≡◌, ◌↔◌, ◌<◌, ℕ, List, [], length, Contains}
use Rattle.std.specs.List.{slice_index_or}
use Rattle.std.specs.List.Sorted.{IsStrictlyIncreasing}
use Rattle.bf_graph.specs.Edges.{IsUpstream}

-- the numbers with a property, rising, each once
pub record IsRisingListOf (P : ℕ → Type 0) (ts : List ℕ) : Type 0 where
  pub rising : IsStrictlyIncreasing ts
  pub exact : (t : ℕ) → Contains ts t ↔ P t

-- a task that is no direct upstream
abbrev pub IsLeaf : List (List ℕ) → ℕ → Type 0
IsLeaf ups t = (t < length ups) × ((d : ℕ) → IsUpstream ups t d → ⊥)

-- the downstreams of a task
abbrev pub downstreams_of : List (List ℕ) → ℕ → List ℕ
downstreams_of downs t = slice_index_or downs t []

-- the tasks of which each is a direct upstream
pub record AreDownstreams (ups downs : List (List ℕ)) : Type 0 where
  pub len : length downs ≡ length ups
  pub each : (t : ℕ) → t < length ups → IsRisingListOf (IsUpstream ups t) (downstreams_of downs t)
