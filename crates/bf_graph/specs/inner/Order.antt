-- The tasks of a graph by rank.
use Rattle.std.specs.Prelude.{ℕ, List, map}
use Rattle.std.specs.List.{enumerate_from}
use Rattle.std.specs.Ordering.{nat_cmp, ordering_then}
use Rattle.std.specs.declared.cmp.Ordering.{Ordering}

-- ---- while they are put in order

-- each task with its rank before it, in file order
abbrev pub ranked_tasks : List ℕ → List (ℕ × ℕ)
ranked_tasks ranks = map (λ p. (p.1, p.0)) (enumerate_from 0 ranks)

-- pairs of a rank and a task are compared by rank, and those of one rank by task
abbrev pub pair_cmp : ℕ × ℕ → ℕ × ℕ → Ordering
pair_cmp p q = ordering_then (nat_cmp p.0 q.0) (nat_cmp p.1 q.1)
