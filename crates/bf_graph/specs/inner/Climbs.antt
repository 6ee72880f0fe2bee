-- Ranks, found by climbing: a path goes from a task up to an upstream without rank, and so on, and each task is
-- ranked when all its upstreams are.
use Rattle.std.specs.Prelude.{◌≡◌, ◌≢◌, ◌<◌, ◌≤◌, ◌+◌, ℕ, List, [], length, slice_index, slice_set, AllPairs, Contains, Bool, true, Option, Some, None, Vec}
use Rattle.std.specs.declared.alloc.Global.{Global}
use Rattle.bf_graph.specs.declared.ranking.Found.{Found}
use Rattle.bf_graph.specs.declared.climb.Climb.{Climb}
use Rattle.bf_graph.specs.Edges.{lists, upstreams_of, IsUpstream}
use Rattle.bf_graph.specs.inner.Ranks.{rank_at, AreFound, AllRanked}
use Rattle.bf_graph.specs.Reach.{is_marked_in, rows_of}
use Rattle.bf_graph.specs.inner.Reach.{AreRows}

-- the ranks and the rows that were found so far
pub record AreFoundIn (edges : List (Vec ℕ Global)) (f : Found) : Type 0 where
  pub right_ranks : AreFound (lists edges) (length edges) f.ranks.items
  pub one_row_each : length f.rows.items ≡ length edges
  pub right_rows : AreRows (lists edges) (length edges) f.ranks.items (rows_of f.rows.items)

-- each task has its rank and its row
pub record AreAllFound (edges : List (Vec ℕ Global)) (f : Found) : Type 0 where
  pub found : AreFoundIn edges f
  pub all : AllRanked f.ranks.items

-- one more task was ranked
pub record HasRanked (edges : List (Vec ℕ Global)) (t : ℕ) (old new : Found) : Type 0 where
  pub found : AreFoundIn edges new
  pub rank : ℕ
  pub set_there : new.ranks.items ≡ slice_set old.ranks.items t (Some rank)

-- those of these at the places from low on and below high have ranks
abbrev pub AreRankedBetween : List (Option ℕ) → List ℕ → ℕ → ℕ → Type 0
AreRankedBetween ranks us low high =
    (k : ℕ) → low ≤ k → k < high → rank_at ranks (slice_index us k) ≢ None

-- the first place from low on whose task has no rank
pub record IsFirstUnranked (ranks : List (Option ℕ)) (us : List ℕ) (low place : ℕ) : Type 0 where
  pub within : place < length us
  pub unranked : rank_at ranks (slice_index us place) ≡ None
  pub before : AreRankedBetween ranks us low place

-- each task is a direct upstream of the one before
abbrev pub Climbs : List (List ℕ) → List ℕ → Type 0
Climbs ups path =
    (k : ℕ) → k + 1 < length path → IsUpstream ups (slice_index path (k + 1)) (slice_index path k)

-- a task of the path
pub record IsOnPath (n : ℕ) (ranks : List (Option ℕ)) (seen : List Bool) (t : ℕ) : Type 0 where
  pub within : t < n
  pub unranked : rank_at ranks t ≡ None
  pub marked : is_marked_in seen t ≡ true

-- what is known of n tasks while a path climbs, where so many upstreams of each were passed
pub record IsClimb (ups : List (List ℕ)) (n : ℕ) (ranks : List (Option ℕ)) (path : List ℕ)
    (seen : List Bool) (passed : List ℕ) : Type 0 where
  pub one_mark_each : length seen ≡ n
  pub one_number_each : length passed ≡ n
  pub passed_ranked : (t : ℕ) → AreRankedBetween ranks (upstreams_of ups t) 0 (slice_index passed t)
  pub climbs : Climbs ups path
  pub once : AllPairs (λ t u. t ≢ u) path
  pub on_path : (t : ℕ) → Contains path t → IsOnPath n ranks seen t
  pub still : (t : ℕ) → is_marked_in seen t ≡ true → rank_at ranks t ≡ None → Contains path t

pub record IsClimbing (edges : List (Vec ℕ Global)) (c : Climb) : Type 0 where
  pub found : AreFoundIn edges c.found
  pub climb : IsClimb (lists edges)
      (length edges) c.found.ranks.items c.path.items c.seen.items c.passed.items

-- no path climbs
pub record IsDown (edges : List (Vec ℕ Global)) (c : Climb) : Type 0 where
  pub climbing : IsClimbing edges c
  pub down : c.path.items ≡ []

-- the tasks that had ranks have some still
abbrev pub KeepsRanks : List (Option ℕ) → List (Option ℕ) → Type 0
KeepsRanks old new = (t : ℕ) → rank_at old t ≢ None → rank_at new t ≢ None

-- the path is down again, and the task that it began with has a rank
pub record HasClimbed (edges : List (Vec ℕ Global)) (start : ℕ) (old new : Climb) : Type 0 where
  pub all_down : IsDown edges new
  pub kept : KeepsRanks old.found.ranks.items new.found.ranks.items
  pub ranked : rank_at new.found.ranks.items start ≢ None
