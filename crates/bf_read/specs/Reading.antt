-- What is read of a graph file: what it says, or the first fault of the walk through it.
use Rattle.std.specs.Prelude.{ℕ, ◌+◌, List, [], ◌∷◌, ◌++◌, length, codes, nat_le, if◌then◌else◌, Option, Some, None, is_some, Result, Ok, Err}
use Rattle.std.specs.List.{list_any}
use Rattle.std.specs.Str.{bytes_eq, is_utf8}
use Rattle.serde_json.specs.Data.{Data, Items, no_items, item}
use Rattle.serde_json.specs.Events.{items_len}
use Rattle.serde_json.specs.Read.{read}
use Rattle.bf_read.specs.declared.draft.Draft.{Draft}
use Rattle.bf_read.specs.declared.draft.PoolDraft.{PoolDraft}
use Rattle.bf_read.specs.declared.draft.TaskDraft.{TaskDraft}
use Rattle.bf_read.specs.Limits.{most_tasks, most_edges, most_retries, longest_retry_delay, most_slots, greatest_weight, most_active_runs, most_bytes}
use Rattle.bf_read.specs.declared.tasks.TaskPlace.{TaskPlace}
use Rattle.bf_read.specs.declared.tasks.TaskWork.{TaskWork}
use Rattle.bf_read.specs.declared.tasks.TaskDemand.{TaskDemand}
use Rattle.bf_read.specs.declared.keys.GraphKey.{GraphKey}
use Rattle.bf_read.specs.declared.keys.TaskKey.{TaskKey}
use Rattle.bf_read.specs.declared.path.Path.{Path}
use Rattle.bf_read.specs.declared.fault.ReadFault.{ReadFault}
use Rattle.bf_read.specs.declared.fault.ReadFault.TheVariants.{NotJson, DuplicateTask}
use Rattle.bf_read.specs.declared.fields.ObjectKind.{ObjectKind}
use Rattle.bf_read.specs.Drafts.{number_of_edges}
use Rattle.bf_read.specs.Gives.{◌>>=◌}
use Rattle.bf_read.specs.Fields.{Member, graph_member, task_member, refuse_other_object_in, text_of, text_or_in, id_in, kind_in, expansion_source_in, flag_in, count_in, weight_rule_in, refuse_beyond_limit_of, items_in, upstreams_in, pools_in}
use Rattle.bf_read.specs.Commands.{command_in}

-- what a graph file says
pub record GraphFile : Type 0 where
  pub dag_id : List ℕ
  pub schedule : List ℕ
  pub zone : List ℕ
  pub max_active_runs : ℕ
  pub pools : List PoolDraft
  pub tasks : List TaskDraft

-- what the file of a draft says
abbrev pub graph_file_of : Draft → GraphFile
graph_file_of draft = record {
  dag_id = draft.dag_id;
  schedule = draft.schedule;
  zone = draft.zone;
  max_active_runs = draft.max_active_runs;
  pools = draft.pools;
  tasks = draft.tasks;
}

-- ---- tasks

-- an id that no task before has
unfoldable pub refuse_seen_id_of : List TaskDraft → List ℕ → Result (List ℕ) ReadFault
refuse_seen_id_of before id =
    if list_any (λ task. bytes_eq id task.id) before then Err (DuplicateTask id) else Ok id

-- a task's id and its upstreams, which with those of the tasks before are not too many
unfoldable pub task_place_in : List TaskDraft → (TaskKey → Member) → Result TaskPlace ReadFault
task_place_in before at = do
  found ← id_in (at TaskKey.Id)
  id ← refuse_seen_id_of before found
  upstreams ← upstreams_in (at TaskKey.Upstream)
  _ ← refuse_beyond_limit_of (at TaskKey.Upstream).path
      (nat_le (number_of_edges before + length upstreams) most_edges)
  Ok (record { id = id; upstreams = upstreams })

-- what a task does, and when
unfoldable pub task_work_in : (TaskKey → Member) → Result TaskWork ReadFault
task_work_in at = do
  rule ← text_or_in (codes "all_success") (at TaskKey.Rule)
  kind ← kind_in (at TaskKey.Kind)
  command ← command_in (is_some (at TaskKey.Expand).value) (at TaskKey.Command)
  expand ← expansion_source_in (at TaskKey.Expand)
  depends_on_past ← flag_in (at TaskKey.DependsOnPast)
  retries ← count_in 0 0 most_retries (at TaskKey.Retries)
  retry_delay ← count_in 0 0 longest_retry_delay (at TaskKey.RetryDelay)
  Ok (record {
    rule = rule;
    kind = kind;
    command = command;
    expand = expand;
    depends_on_past = depends_on_past;
    retries = retries;
    retry_delay = retry_delay;
  })

-- what a running try of a task takes, and what the task weighs
unfoldable pub task_demand_in : (TaskKey → Member) → Result TaskDemand ReadFault
task_demand_in at = do
  pool ← text_or_in (codes "default_pool") (at TaskKey.Pool)
  slots ← count_in 1 1 most_slots (at TaskKey.PoolSlots)
  weight ← count_in 1 0 greatest_weight (at TaskKey.PriorityWeight)
  weight_rule ← weight_rule_in (at TaskKey.WeightRule)
  Ok (record { pool = pool; slots = slots; weight = weight; weight_rule = weight_rule })

abbrev pub task_of : TaskPlace → TaskWork → TaskDemand → TaskDraft
task_of place work demand = record {
  id = place.id;
  upstreams = place.upstreams;
  rule = work.rule;
  kind = work.kind;
  command = work.command;
  expand = work.expand;
  depends_on_past = work.depends_on_past;
  retries = work.retries;
  retry_delay = work.retry_delay;
  pool = demand.pool;
  pool_slots = demand.slots;
  priority_weight = demand.weight;
  weight_rule = demand.weight_rule;
}

-- the task at n, after these
unfoldable pub task_in : List TaskDraft → ℕ → Data → Result TaskDraft ReadFault
task_in before n d = do
  _ ← refuse_other_object_in ObjectKind.Task (Path.Task n) d
  place ← task_place_in before (task_member n d)
  work ← task_work_in (task_member n d)
  demand ← task_demand_in (task_member n d)
  Ok (task_of place work demand)

-- these tasks, and those from n on
unfoldable pub tasks_from : List TaskDraft → ℕ → Items → Result (List TaskDraft) ReadFault
tasks_from before n no_items = Ok before
tasks_from before n (item d ds) = do
  task ← task_in before n d
  tasks_from (before ++ task ∷ []) (n + 1) ds

-- the tasks, of which there may not be too many
unfoldable pub tasks_in : Member → Result (List TaskDraft) ReadFault
tasks_in m = do
  ds ← items_in m
  _ ← refuse_beyond_limit_of m.path (nat_le (items_len ds) most_tasks)
  tasks_from [] 0 ds

-- ---- the whole

unfoldable pub draft_of_entry : (GraphKey → Member) → Result GraphFile ReadFault
draft_of_entry at = do
  dag_id ← id_in (at GraphKey.DagId)
  schedule ← text_of (at GraphKey.Schedule)
  zone ← text_or_in (codes "UTC") (at GraphKey.Zone)
  max_active_runs ← count_in 16 1 most_active_runs (at GraphKey.MaxActiveRuns)
  pools ← pools_in (at GraphKey.Pools)
  tasks ← tasks_in (at GraphKey.Tasks)
  Ok (record {
    dag_id = dag_id;
    schedule = schedule;
    zone = zone;
    max_active_runs = max_active_runs;
    pools = pools;
    tasks = tasks;
  })

unfoldable pub draft_in : Data → Result GraphFile ReadFault
draft_in d = do
  _ ← refuse_other_object_in ObjectKind.Graph Path.Top d
  draft_of_entry (graph_member d)

-- what a text says that reads as this data, or as none
abbrev pub graph_of : Option Data → Result GraphFile ReadFault
graph_of None = Err NotJson
graph_of (Some d) = draft_in d

-- the JSON data of a text in UTF-8
abbrev pub data_in : List ℕ → Option Data
data_in bytes = if is_utf8 bytes then read bytes else None

-- what a graph file says, or its first fault: it is too long, or no JSON text, or its value lacks something
unfoldable pub graph_in : List ℕ → Result GraphFile ReadFault
graph_in bytes = do
  _ ← refuse_beyond_limit_of Path.Bytes (nat_le (length bytes) most_bytes)
  graph_of (data_in bytes)
