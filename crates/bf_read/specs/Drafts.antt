-- Drafts that a graph file may give: how many of each thing there are, and between which bounds.
use Rattle.std.specs.Prelude.{◌≡◌, ℕ, ◌≤◌, not, true, List, [], ◌∷◌, length, filter, All, AllPairs, map, sum_by, Option, Some, None}
use Rattle.std.specs.List.{filter_map}
use Rattle.std.specs.Cmp.Lexicographic.{slice_cmp}
use Rattle.std.specs.Ordering.{nat_cmp}
use Rattle.std.specs.declared.cmp.Ordering.TheVariants.{Less}
use Rattle.std.specs.Str.{bytes_eq}
use Rattle.bf_value.specs.Distinct.{AreDistinct}
use Rattle.bf_plan.specs.Ids.{is_id_in}
use Rattle.bf_read.specs.Limits.{most_tasks, most_edges, most_words, most_pulls, most_retries, longest_retry_delay, most_slots, greatest_weight, most_active_runs}
use Rattle.bf_read.specs.declared.draft.PoolDraft.{PoolDraft}
use Rattle.bf_read.specs.declared.draft.TaskDraft.{TaskDraft}
use Rattle.bf_read.specs.declared.draft.WordDraft.{WordDraft}
use Rattle.bf_read.specs.declared.draft.WordDraft.TheVariants.{Pull}

-- each text once, in order of first use
unfoldable pub distinct_texts_of : List (List ℕ) → List (List ℕ)
distinct_texts_of [] = []
distinct_texts_of (s ∷ ss) = s ∷ filter (λ t. not (bytes_eq s t)) (distinct_texts_of ss)

abbrev pub pulled_by : WordDraft → Option (List ℕ)
pulled_by (Pull id) = Some id
pulled_by _ = None

-- the distinct ids that the words of a command pull from, in order of first use
abbrev pub pulled_in : List WordDraft → List (List ℕ)
pulled_in words = distinct_texts_of (filter_map pulled_by words)

-- how many upstreams the tasks have
abbrev pub number_of_edges : List TaskDraft → ℕ
number_of_edges tasks = sum_by (λ task. length task.upstreams) tasks

-- no two tasks have one id
abbrev pub HaveDistinctIds : List TaskDraft → Type 0
HaveDistinctIds tasks = AreDistinct (map (λ task. task.id) tasks)

-- a task that has an id, whose upstreams are distinct, and whose numbers and words are within their limits
pub record IsTask (task : TaskDraft) : Type 0 where
  pub has_id : is_id_in task.id ≡ true
  pub distinct_upstreams : AreDistinct task.upstreams
  pub few_words : length task.command ≤ most_words
  pub few_pulls : length (pulled_in task.command) ≤ most_pulls
  pub few_retries : task.retries ≤ most_retries
  pub short_delay : task.retry_delay ≤ longest_retry_delay
  pub some_slots : 1 ≤ task.pool_slots
  pub few_slots : task.pool_slots ≤ most_slots
  pub light : task.priority_weight ≤ greatest_weight

-- the tasks of a draft
pub record AreTasks (tasks : List TaskDraft) : Type 0 where
  pub few : length tasks ≤ most_tasks
  pub few_edges : number_of_edges tasks ≤ most_edges
  pub distinct_ids : HaveDistinctIds tasks
  pub each : All IsTask tasks

-- a pool whose size is within its limits
pub record IsPool (pool : PoolDraft) : Type 0 where
  pub some_slots : 1 ≤ pool.slots
  pub few_slots : pool.slots ≤ most_slots

-- each pool's name is below those behind it, byte by byte
abbrev pub StandByName : List PoolDraft → Type 0
StandByName pools = AllPairs (λ a b. slice_cmp nat_cmp a.name b.name ≡ Less) pools

-- the id, the numbers, the pools and the tasks of a draft
pub record IsDraft (dag_id : List ℕ) (max_active_runs : ℕ) (pools : List PoolDraft)
    (tasks : List TaskDraft) : Type 0 where
  pub has_id : is_id_in dag_id ≡ true
  pub some_runs : 1 ≤ max_active_runs
  pub few_runs : max_active_runs ≤ most_active_runs
  pub are_pools : All IsPool pools
  pub by_name : StandByName pools
  pub are_tasks : AreTasks tasks
