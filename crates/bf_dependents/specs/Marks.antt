-- Marks while they are made.
use Rattle.std.specs.Prelude.{◌==◌, ◌&&◌, ◌||◌, ℕ, zero, suc, Bool, List, []}
use Rattle.std.specs.List.{list_any}
use Rattle.bf_graph.specs.Reach.{is_marked_in, row_at}
use Rattle.bf_plan.specs.declared.plan.Dag.{Dag}
use Rattle.bf_plan.specs.Plans.{task_of}
use Rattle.bf_dependents.specs.declared.place.Place.{Place}

-- ---- seeds

-- the place is of the task t in the run k
abbrev pub is_of : ℕ → ℕ → Place → Bool
is_of k t p = (p.run == k) && (p.task == t)

-- ---- what follows

-- a seed, or one whose past is marked, or one with a marked upstream
abbrev pub follows_in : Dag → ℕ → List Bool → List Bool → List Bool → Bool
follows_in dag t seeded before marks =
    is_marked_in seeded t || (((task_of dag t).depends_on_past && is_marked_in before t)
    || list_any (is_marked_in marks) (task_of dag t).upstreams)

-- the marks of the run before k; of none before the first
abbrev pub marks_before_in : List (List Bool) → ℕ → List Bool
marks_before_in rows zero = []
marks_before_in rows (suc k) = row_at rows k
