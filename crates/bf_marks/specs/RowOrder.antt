-- The order of the rows: topological and depth first.
use Rattle.std.specs.Prelude.{ℕ, zero, suc, ◌==◌, Bool, true, false, ◌&&◌, List, [], ◌∷◌, ◌++◌, length, filter, replicate, slice_index_or, slice_set}
use Rattle.std.specs.List.{list_any, list_all, range_with_len}
use Rattle.bf_plan.specs.declared.plan.Dag.{Dag}
use Rattle.bf_plan.specs.Plans.{task_of}

-- the tasks for which this holds, in file order
abbrev pub tasks_where : Dag → (ℕ → Bool) → List ℕ
tasks_where dag holds = filter holds (range_with_len 0 (length dag.tasks))

-- it stands in the order already
abbrev pub stands : List Bool → ℕ → Bool
stands standing task = slice_index_or standing task false

-- it waits for nothing more, and this task was one that it waited for
abbrev pub is_let_go_in : Dag → List Bool → ℕ → ℕ → Bool
is_let_go_in dag standing task other =
    list_any (λ upstream. upstream == task) (task_of dag other).upstreams
    && list_all (stands standing) (task_of dag other).upstreams

abbrev pub has_no_upstreams_in : Dag → ℕ → Bool
has_no_upstreams_in dag task = length (task_of dag task).upstreams == 0

-- of at most n more: behind a task those that it let go, and then what was left
abbrev pub order_from : Dag → ℕ → List Bool → List ℕ → List ℕ
order_from dag zero standing left = []
order_from dag (suc n) standing [] = []
order_from dag (suc n) standing (task ∷ left) =
    let more = slice_set standing task true in
    task ∷ order_from dag n more (tasks_where dag (is_let_go_in dag more task) ++ left)

-- the sources in file order, and behind each task those of its downstreams that wait for nothing more
unfoldable pub order_of : Dag → List ℕ
order_of dag =
    order_from dag (length dag.tasks) (replicate (length dag.tasks) false)
    (tasks_where dag (has_no_upstreams_in dag))
