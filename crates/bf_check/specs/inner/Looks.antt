-- What is found as a draft is looked through.
use Rattle.std.specs.Prelude.{◌≡◌, ℕ, ◌<◌, Bool, false, List, [], if◌then◌else◌, map, length, slice_get, Contains, Option, Some, None, option_map, is_none, unwrap_or}
use Rattle.std.specs.List.{list_any, slice_index_or}
use Rattle.bf_graph.specs.Shape.{Shape}
use Rattle.bf_read.specs.declared.draft.Draft.{Draft}
use Rattle.bf_read.specs.declared.draft.PoolDraft.{PoolDraft}
use Rattle.bf_read.specs.declared.draft.TaskDraft.{TaskDraft}
use Rattle.bf_read.specs.Drafts.{pulled_in}
use Rattle.bf_rule.specs.declared.rule.Rule.{Rule}
use Rattle.bf_rule.specs.Verdicts.{is_waiting}
use Rattle.bf_check.specs.declared.fault.TaskFault.{TaskFault}
use Rattle.bf_plan.specs.declared.plan.Demand.{Demand}
use Rattle.bf_check.specs.declared.checking.Found.{Found}
use Rattle.bf_check.specs.declared.pools.TaskPool.{TaskPool}
use Rattle.bf_check.specs.declared.pulls.Pulls.{Pulls}
use Rattle.bf_check.specs.declared.tasks.Links.{Links}
use Rattle.bf_check.specs.Checking.{ids_of, number_of, number_or_0, pool_number, rule_of, shape_in}
use Rattle.bf_check.specs.Refusals.{expands_no_upstream, Has, NoneHas, MayPull, PullsUnsettled}

-- ---- the first task with a fault

-- the task t is the first in the file with this fault
pub record IsFirstAt (draft : Draft) (fault : TaskFault) (t : ℕ) : Type 0 where
  pub task : TaskDraft
  pub there : slice_get draft.tasks t ≡ Some task
  pub has : Has draft fault t task
  pub none_before : (s : ℕ) (other : TaskDraft) → s < t → slice_get draft.tasks s ≡ Some other
      → ¬ (Has draft fault s other)

-- where the first task with this fault stands, if one has it
abbrev pub IsPlaceOfFirst : Draft → TaskFault → Option ℕ → Type 0
IsPlaceOfFirst draft fault (Some t) = IsFirstAt draft fault t
IsPlaceOfFirst draft fault None = NoneHas draft fault

-- ---- what is found of a task

-- the numbers of the tasks with these ids, where all are there
abbrev pub numbers_in : List (List ℕ) → List (List ℕ) → Option (List ℕ)
numbers_in ids names =
    if list_any (λ id. is_none (number_of ids id)) names then None
    else Some (map (number_or_0 ids) names)

-- the pool with a number
abbrev pub with_size : List PoolDraft → ℕ → TaskPool
with_size pools n =
    record { number = n; slots = slice_index_or (map (λ pool. pool.slots) pools) n 0 }

-- the pool with a name, if it is there
abbrev pub pool_named_of : List PoolDraft → List ℕ → Option TaskPool
pool_named_of pools name = option_map (with_size pools) (pool_number pools name)

-- what a try of a task takes of this pool
abbrev pub demand_from : TaskPool → TaskDraft → Demand
demand_from pool task = record {
  pool = pool.number;
  slots = task.pool_slots;
  weight = task.priority_weight;
  weight_rule = task.weight_rule;
  retry_delay = task.retry_delay;
}

-- what a task pulls from
abbrev pub pulls_in : List (List ℕ) → TaskDraft → Pulls
pulls_in ids task =
    record {
      ids = pulled_in task.command;
      numbers = map (number_or_0 ids) (pulled_in task.command);
    }

-- each task may pull from what it pulls from
abbrev pub AllMayPull : Draft → Type 0
AllMayPull draft =
    (t : ℕ) (task : TaskDraft) → slice_get draft.tasks t ≡ Some task → (id : List ℕ)
    → Contains (pulled_in task.command) id → MayPull draft t id

-- what is found of the pulls of the task t: nothing where it may not pull from all
abbrev pub IsFoundOfPulls : Draft → ℕ → TaskDraft → Option Pulls → Type 0
IsFoundOfPulls draft t task (Some pulls) =
    (pulls ≡ pulls_in (ids_of draft.tasks) task)
    × ((id : List ℕ) → Contains (pulled_in task.command) id → MayPull draft t id)
IsFoundOfPulls draft t task None = PullsUnsettled draft t task

-- the source of the items of a task, if it is expanded
abbrev pub source_in : List (List ℕ) → TaskDraft → Option ℕ
source_in ids task = option_map (number_or_0 ids) task.expand

-- the same, and nothing where the source isn't upstream
abbrev pub source_found : List (List ℕ) → TaskDraft → Option (Option ℕ)
source_found ids task = if expands_no_upstream task then None else Some (source_in ids task)

-- what is found of a task beside what its draft says
abbrev pub links_in : List (List ℕ) → TaskDraft → Links
links_in ids task =
    record {
      upstreams = map (number_or_0 ids) task.upstreams;
      rule = rule_of task;
      pulls = pulls_in ids task;
      source = source_in ids task;
    }

-- what is found of all tasks
pub record AreFound (tasks : List TaskDraft) (graph : Shape) (rules : List Rule)
    (pulls : List Pulls) (sources : List (Option ℕ)) : Type 0 where
  pub graph_is : graph ≡ shape_in tasks
  pub rules_are : rules ≡ map rule_of tasks
  pub pulls_are : pulls ≡ map (pulls_in (ids_of tasks)) tasks
  pub sources_are : sources ≡ map (source_in (ids_of tasks)) tasks

-- the same, as it is held
abbrev pub AreFoundIn : List TaskDraft → Shape → Found → Type 0
AreFoundIn tasks graph found =
    AreFound tasks graph found.rules.items found.pulls.items found.sources.items

-- the task of a number is one of those of which something was found
pub record HasLinks (graph : Shape) (rules : List Rule) (sources : List (Option ℕ))
    (task : ℕ) : Type 0 where
  pub edged : task < length graph.upstreams
  pub ruled : task < length rules
  pub sourced : task < length sources

-- ---- what is settled when a task is decided

-- the edges along which upstreams are settled when a task is decided: those into tasks of a waiting rule
abbrev pub settling_upstreams : List (List ℕ) → TaskDraft → List ℕ
settling_upstreams ids task =
    if is_waiting (rule_of task) then map (number_or_0 ids) task.upstreams else []

abbrev pub settling_edges_of : List TaskDraft → List (List ℕ)
settling_edges_of tasks = map (settling_upstreams (ids_of tasks)) tasks

-- the task of an id is there and marked
abbrev pub is_marked_at : List Bool → Option ℕ → Bool
is_marked_at marks None = false
is_marked_at marks (Some number) = unwrap_or (slice_get marks number) false

abbrev pub is_settled_by : List (List ℕ) → List Bool → List ℕ → Bool
is_settled_by ids marks id = is_marked_at marks (number_of ids id)
