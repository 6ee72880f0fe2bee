-- What follows from cleared tasks.
use Rattle.std.specs.Prelude.{◌≡◌, ◌<◌, ◌↔◌, ◌&&◌, ◌||◌, ℕ, suc, ℤ, Bool, true, List, [], length, Contains, Option, Some, None}
use Rattle.std.specs.BTreeMap.{is_at}
use Rattle.std.specs.List.{list_any}
use Rattle.bf_value.specs.declared.name.JobName.{JobName}
use Rattle.bf_graph.specs.Reach.{is_marked_in, row_at}
use Rattle.bf_plan.specs.declared.plan.Dag.{Dag}
use Rattle.bf_plan.specs.Plans.{task_of}
use Rattle.bf_plan.specs.Sound.{IsOneOf}
use Rattle.bf_dependents.specs.declared.place.Place.{Place}
use Rattle.bf_dependents.specs.Marks.{follows_in, marks_before_in}
use Rattle.bf_dependents.specs.Places.{place_cmp}

-- the instance i of the task t in the run k follows: the least set of instances that has each of a seed without an index, the one of a seed with an index, and behind each member all of its task's direct downstreams, and, where its task depends on its past, all of that task in the next run
pub data IsDependent (dag : Dag) (seeds : List Place) : ℕ → ℕ → ℤ → Type 0 where
  Seed : {k t : ℕ} {i : ℤ} → Contains seeds (record { run = k; task = t; index = None })
      → IsDependent dag seeds k t i
  SeedAt : {k t : ℕ} {i : ℤ} → Contains seeds (record { run = k; task = t; index = Some i })
      → IsDependent dag seeds k t i
  Downstream : {k t u : ℕ} {i j : ℤ} → IsOneOf (task_of dag t).upstreams u
      → IsDependent dag seeds k u j → IsDependent dag seeds k t i
  NextRun : {k t : ℕ} {i j : ℤ} → (task_of dag t).depends_on_past ≡ true
      → IsDependent dag seeds k t j → IsDependent dag seeds (suc k) t i

-- the try is of an instance that isn't cleared
abbrev pub IsBeside : Dag → List Place → JobName → Type 0
IsBeside dag seeds n = ¬ (IsDependent dag seeds n.run n.task n.index)

-- ---- as it is looked up

-- what contracts see of what follows: for each run marks on the tasks of which an instance follows, and the seeds
pub record Following : Type 0 where
  pub touched : List (List Bool)
  pub seeds : List Place

abbrev pub has_seed_in : List Place → ℕ → ℕ → Option ℤ → Bool
has_seed_in seeds k t index =
    list_any (is_at (place_cmp (record { run = k; task = t; index = index }))) seeds

-- the instance is one of a seed, or a direct upstream is marked, or the past of a task that depends on it
abbrev pub is_led_to_in : Dag → Following → ℕ → ℕ → ℤ → Bool
is_led_to_in dag all k t i =
    has_seed_in all.seeds k t None || (has_seed_in all.seeds k t (Some i)
    || follows_in dag t [] (marks_before_in all.touched k) (row_at all.touched k))

-- the instance i of the task t in the run k follows
abbrev pub has_instance_in : Dag → Following → ℕ → ℕ → ℤ → Bool
has_instance_in dag all k t i = is_marked_in (row_at all.touched k) t && is_led_to_in dag all k t i

-- of so many runs it is known which instances follow
pub record AreDependents (dag : Dag) (seeds : List Place) (runs : ℕ)
    (all : Following) : Type 0 where
  pub len : length all.touched ≡ runs
  pub right : (k t : ℕ) (i : ℤ) → k < runs → t < length dag.tasks → (has_instance_in dag all k t i ≡ true)
      ↔ IsDependent dag seeds k t i
