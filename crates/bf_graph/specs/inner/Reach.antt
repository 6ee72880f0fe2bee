-- Which tasks reach which.
use Rattle.std.specs.Prelude.{◌≡◌, ◌⊎◌, ◌<◌, ◌↔◌, ℕ, List, length, Contains, Bool, true, Option, Some}
use Rattle.bf_graph.specs.inner.Ranks.{rank_at}
use Rattle.bf_graph.specs.Reach.{row_at, is_marked_in, IsRow}

-- a is one of these, or marked at one of these
abbrev pub IsJoined : List (List Bool) → List ℕ → ℕ → Type 0
IsJoined rows us a = (u : ℕ) × Contains us u × ((a ≡ u) ⊎ (is_marked_in (row_at rows u) a ≡ true))

-- the marks of the rows of these, and of these
pub record JoinsRows (rows : List (List Bool)) (us : List ℕ) (n : ℕ)
    (row : List Bool) : Type 0 where
  pub len : length row ≡ n
  pub joined : (a : ℕ) → a < n → (is_marked_in row a ≡ true) ↔ IsJoined rows us a

-- the marks of each task that has a rank are right
abbrev pub AreRows : List (List ℕ) → ℕ → List (Option ℕ) → List (List Bool) → Type 0
AreRows ups n ranks rows = (t r : ℕ) → rank_at ranks t ≡ Some r → IsRow ups n t (row_at rows t)
