-- The shape of a graph, which is what contracts see of it.
use Rattle.std.specs.Prelude.{◌≡◌, ℕ, ◌<◌, ◌≤◌, ◌+◌, ◌^◌, Bool, List, length, map, position, String, string_bytes, Vec}
use Rattle.std.specs.BTreeMap.{BTreeMap, get_by_text}
use Rattle.std.specs.List.{slice_index_or}
use Rattle.std.specs.Str.{bytes_eq}
use Rattle.std.specs.declared.alloc.Global.{Global}
use Rattle.bf_value.specs.Distinct.{AreDistinct}
use Rattle.bf_graph.specs.Edges.{lists, AreInRange, IsRank}
use Rattle.bf_graph.specs.Reach.{rows_of, HasRows}
use Rattle.bf_graph.specs.Lookups.{IsRisingListOf, IsLeaf, AreDownstreams}

-- the tasks' ids by number, and the upstreams of each
pub record Shape : Type 0 where
  pub ids : List (List ℕ)
  pub upstreams : List (List ℕ)

-- the bytes of each text
abbrev pub texts : List (String Global) → List (List ℕ)
texts ss = map string_bytes ss

-- a map has the number of each id, and no other
abbrev pub AreNumbersOf : List (List ℕ) → BTreeMap (String Global) ℕ → Type 0
AreNumbersOf ids numbers = (id : List ℕ) → get_by_text numbers id ≡ position (bytes_eq id) ids

-- the rank of each task
pub record HasRanks (ups : List (List ℕ)) (ranks : List ℕ) : Type 0 where
  pub in_range : AreInRange ups
  pub rank : (t : ℕ) → t < length ups → IsRank ups t (slice_index_or ranks t 0)
  pub bounded : (t : ℕ) → slice_index_or ranks t 0 ≤ length ups

-- what a graph keeps: distinct ids, and for each task its downstreams, its rank and which tasks reach it
pub record IsKept (ids : List (List ℕ)) (edges downs : List (Vec ℕ Global)) (leaves ranks : List ℕ)
    (rows : List (Vec Bool Global)) : Type 0 where
  pub distinct : AreDistinct ids
  pub one_id_each : length ids ≡ length edges
  pub below : AreDownstreams (lists edges) (lists downs)
  pub right_leaves : IsRisingListOf (IsLeaf (lists edges)) leaves
  pub one_rank_each : length ranks ≡ length edges
  pub ranked : HasRanks (lists edges) ranks
  pub reached : HasRows (lists edges) (length edges) (rows_of rows)
  pub few : length edges + 1 < 2 ^ 32
