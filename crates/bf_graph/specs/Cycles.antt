-- The cycle that is named where there are cycles.
use Rattle.std.specs.Prelude.{◌≡◌, ◌≢◌, ◌≤◌, ℕ, List, length, slice_index, All}
use Rattle.std.specs.Cmp.Lexicographic.{slice_cmp}
use Rattle.std.specs.Ordering.{nat_cmp}
use Rattle.std.specs.declared.cmp.Ordering.TheVariants.{Greater}
use Rattle.bf_graph.specs.Edges.{IsCycle}

-- a cycle that begins with t
abbrev pub IsCycleFrom : List (List ℕ) → ℕ → List ℕ → Type 0
IsCycleFrom ups t ts = (slice_index ts 0 ≡ t) × IsCycle ups ts

-- a cycle that begins with the earliest task that lies on one. None that begins there is shorter, and of
-- those as short it comes first by the numbers of their tasks
pub record IsNamedCycle (ups : List (List ℕ)) (ts : List ℕ) : Type 0 where
  pub cycle : IsCycle ups ts
  pub earliest : (us : List ℕ) → IsCycle ups us → All (λ u. slice_index ts 0 ≤ u) us
  pub shortest : (us : List ℕ) → IsCycleFrom ups (slice_index ts 0) us → length ts ≤ length us
  pub first : (us : List ℕ) → IsCycleFrom ups (slice_index ts 0) us → length us ≡ length ts
      → slice_cmp nat_cmp ts us ≢ Greater
