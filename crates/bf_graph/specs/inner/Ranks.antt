-- What is known of ranks.
use Rattle.std.specs.Prelude.{◌≡◌, ◌⊎◌, ℕ, suc, ◌<◌, ◌-◌, List, [], ◌∷◌, length, Contains, Option, Some, None}
use Rattle.std.specs.List.{slice_index_or}
use Rattle.bf_graph.specs.Edges.{IsRank}

-- ---- while they are found

-- the rank that was found
abbrev pub rank_at : List (Option ℕ) → ℕ → Option ℕ
rank_at ranks t = slice_index_or ranks t None

-- each rank that was found is right
abbrev pub AreRanks : List (List ℕ) → List (Option ℕ) → Type 0
AreRanks ups ranks = (t r : ℕ) → rank_at ranks t ≡ Some r → IsRank ups t r

-- each rank that was found is below n
abbrev pub AreBelow : List (Option ℕ) → ℕ → Type 0
AreBelow ranks n = (t r : ℕ) → rank_at ranks t ≡ Some r → r < n

-- one of these has no rank yet
abbrev pub HasUnranked : List (Option ℕ) → List ℕ → Type 0
HasUnranked ranks us = (u : ℕ) × Contains us u × (rank_at ranks u ≡ None)

-- each of these has a rank, and r is the least number above all
pub record IsNextRank (ranks : List (Option ℕ)) (us : List ℕ) (r : ℕ) : Type 0 where
  pub above : (u : ℕ) → Contains us u → (q : ℕ) × (rank_at ranks u ≡ Some q) × (q < r)
  pub least : ((r ≡ 0) × (us ≡ []))
      ⊎ ((u : ℕ) × (q : ℕ) × Contains us u × (rank_at ranks u ≡ Some q) × (r ≡ suc q))

-- each task has a rank
abbrev pub AllRanked : List (Option ℕ) → Type 0
AllRanked ranks = (t : ℕ) → t < length ranks → rank_at ranks t ≡ None → ⊥

-- how many have no rank
abbrev pub unranked : List (Option ℕ) → ℕ
unranked [] = 0
unranked (None ∷ rs) = suc (unranked rs)
unranked (Some r ∷ rs) = unranked rs

-- the ranks of n tasks that were found so far
pub record AreFound (ups : List (List ℕ)) (n : ℕ) (ranks : List (Option ℕ)) : Type 0 where
  pub len : length ranks ≡ n
  pub right : AreRanks ups ranks
  pub below : AreBelow ranks (n - unranked ranks)
