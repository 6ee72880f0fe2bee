-- The tasks of a graph by rank.
use Rattle.std.specs.Prelude.{◌≡◌, ◌⊎◌, ℕ, ◌<◌, List, length, Some, slice_get}
use Rattle.bf_graph.specs.Edges.{IsUpstream, IsRank}

-- each task once, by rank, and those of one rank in file order
pub record IsByRank (ups : List (List ℕ)) (order : List ℕ) : Type 0 where
  pub all : (t : ℕ) → t < length ups → (i : ℕ) × (slice_get order i ≡ Some t)
  pub tasks : (i t : ℕ) → slice_get order i ≡ Some t → t < length ups
  pub once : (i j t : ℕ) → slice_get order i ≡ Some t → slice_get order j ≡ Some t → i ≡ j
  pub rises : (i j t u q r : ℕ) → i < j → slice_get order i ≡ Some t → slice_get order j ≡ Some u
      → IsRank ups t q → IsRank ups u r → (q < r) ⊎ ((q ≡ r) × (t < u))

-- each task stands behind its upstreams
abbrev pub StandBehind : List (List ℕ) → List ℕ → Type 0
StandBehind ups order = (i t u : ℕ) → slice_get order i ≡ Some t → IsUpstream ups u t
    → (j : ℕ) × (j < i) × (slice_get order j ≡ Some u)
