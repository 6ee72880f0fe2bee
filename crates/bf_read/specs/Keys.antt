-- The keys of a graph file, by their names.
use Rattle.std.specs.Prelude.{ℕ, List, [], ◌∷◌, Bool, codes}
use Rattle.std.specs.List.{list_any}
use Rattle.std.specs.Str.{bytes_eq}
use Rattle.bf_read.specs.declared.keys.GraphKey.{GraphKey}
use Rattle.bf_read.specs.declared.keys.GraphKey.TheVariants.{DagId, Schedule, Zone, MaxActiveRuns, Pools, Tasks}
use Rattle.bf_read.specs.declared.keys.TaskKey.{TaskKey}
use Rattle.bf_read.specs.declared.keys.TaskKey.TheVariants.{Id, Upstream, Rule, Kind, Command, Expand, DependsOnPast, Retries, RetryDelay, Pool, PoolSlots, PriorityWeight, WeightRule}

abbrev pub graph_key_name : GraphKey → List ℕ
graph_key_name DagId = codes "dag_id"
graph_key_name Schedule = codes "schedule"
graph_key_name Zone = codes "zone"
graph_key_name MaxActiveRuns = codes "max_active_runs"
graph_key_name Pools = codes "pools"
graph_key_name Tasks = codes "tasks"

abbrev pub task_key_name : TaskKey → List ℕ
task_key_name Id = codes "id"
task_key_name Upstream = codes "upstream"
task_key_name Rule = codes "rule"
task_key_name Kind = codes "kind"
task_key_name Command = codes "command"
task_key_name Expand = codes "expand"
task_key_name DependsOnPast = codes "depends_on_past"
task_key_name Retries = codes "retries"
task_key_name RetryDelay = codes "retry_delay"
task_key_name Pool = codes "pool"
task_key_name PoolSlots = codes "pool_slots"
task_key_name PriorityWeight = codes "priority_weight"
task_key_name WeightRule = codes "weight_rule"

abbrev pub graph_keys : List GraphKey
graph_keys = DagId ∷ Schedule ∷ Zone ∷ MaxActiveRuns ∷ Pools ∷ Tasks ∷ []

abbrev pub task_keys : List TaskKey
task_keys =
    Id ∷ Upstream ∷ Rule ∷ Kind ∷ Command ∷ Expand ∷ DependsOnPast ∷ Retries ∷ RetryDelay ∷ Pool
    ∷ PoolSlots ∷ PriorityWeight ∷ WeightRule ∷ []

abbrev pub is_graph_key_in : List ℕ → Bool
is_graph_key_in name = list_any (λ key. bytes_eq name (graph_key_name key)) graph_keys

abbrev pub is_task_key_in : List ℕ → Bool
is_task_key_in name = list_any (λ key. bytes_eq name (task_key_name key)) task_keys
