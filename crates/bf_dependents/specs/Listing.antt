-- What follows, task by task.
use Rattle.std.specs.Prelude.{ℕ, zero, suc, ℤ, ◌||◌, ◌⊎◌, if◌then◌else◌, Bool, List, [], ◌∷◌, ◌++◌, length, filter, Contains, None, Some}
use Rattle.bf_graph.specs.Reach.{is_marked_in, row_at}
use Rattle.bf_plan.specs.declared.plan.Dag.{Dag}
use Rattle.bf_dependents.specs.declared.place.Place.{Place}
use Rattle.bf_dependents.specs.Dependents.{has_seed_in, Following}
use Rattle.bf_dependents.specs.Marks.{follows_in, is_of, marks_before_in}

-- where an instance of the task t in the run k follows, whether each does
abbrev pub is_whole_in : Dag → Following → ℕ → ℕ → Bool
is_whole_in dag all k t =
    has_seed_in all.seeds k t None || follows_in dag t [] (marks_before_in all.touched k)
    (row_at all.touched k)

-- what follows of the task t in the run k: all of it, or the instances that are seeds, in their order
abbrev pub places_of_task : Dag → Following → ℕ → ℕ → List Place
places_of_task dag all k t =
    if is_marked_in (row_at all.touched k) t
    then (if is_whole_in dag all k t then record { run = k; task = t; index = None } ∷ []
    else filter (is_of k t) all.seeds)
    else []

-- what f gives of the numbers below n, one after the other
abbrev pub up_to : (ℕ → List Place) → ℕ → List Place
up_to f zero = []
up_to f (suc n) = up_to f n ++ f n

abbrev pub places_of_run : Dag → Following → ℕ → ℕ → List Place
places_of_run dag all tasks k = up_to (places_of_task dag all k) tasks

-- what follows in so many runs, by run and task
abbrev pub places_in : Dag → Following → ℕ → List Place
places_in dag all runs = up_to (places_of_run dag all (length dag.tasks)) runs

-- the instance is listed, or all of its task
abbrev pub IsListed : List Place → ℕ → ℕ → ℤ → Type 0
IsListed places k t i =
    Contains places (record { run = k; task = t; index = None })
    ⊎ Contains places (record { run = k; task = t; index = Some i })
