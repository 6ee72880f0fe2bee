-- Known names, and what Airflow calls them.
use Rattle.std.specs.Prelude.{ℕ, List, [], ◌∷◌, ◌++◌, codes, map, Option, Some, None, option_and_then, if◌then◌else◌}
use Rattle.std.specs.List.{filter_map, cons_option}
use Rattle.std.specs.Str.{bytes_eq}
use Rattle.serde_json.specs.Data.{Data, Members, no_members, member}
use Rattle.bf_plan.specs.Ids.{is_id_in}
use Rattle.bf_read.specs.Keys.{graph_key_name, task_key_name, graph_keys, task_keys}
use Rattle.bf_findings.specs.declared.form.Form.{Form}
use Rattle.bf_findings.specs.declared.form.Form.TheVariants.{NoGraphKey, NoTaskKey, Schedule, Zone, Rule, Kind, WeightRule, TaskId, PoolName, Context}
use Rattle.bf_findings.specs.Fitting.{id_in, tasks_at, pools_at}

-- ---- what Airflow and cron call by another name

unfoldable pub graph_key_meant_of : List ℕ → Option (List ℕ)
graph_key_meant_of s =
    if bytes_eq s (codes "schedule_interval") then Some (codes "schedule")
    else (if bytes_eq s (codes "timetable") then Some (codes "schedule")
    else (if bytes_eq s (codes "timezone") then Some (codes "zone") else None))

unfoldable pub task_key_meant_of : List ℕ → Option (List ℕ)
task_key_meant_of s =
    if bytes_eq s (codes "task_id") then Some (codes "id")
    else (if bytes_eq s (codes "trigger_rule") then Some (codes "rule")
    else (if bytes_eq s (codes "depends_on") then Some (codes "upstream")
    else (if bytes_eq s (codes "upstream_task_ids") then Some (codes "upstream")
    else (if bytes_eq s (codes "bash_command") then Some (codes "command") else None))))

unfoldable pub rule_meant_of : List ℕ → Option (List ℕ)
rule_meant_of s =
    if bytes_eq s (codes "none_failed_or_skipped") then Some (codes "none_failed_min_one_success")
    else (if bytes_eq s (codes "dummy") then Some (codes "always") else None)

unfoldable pub schedule_meant_of : List ℕ → Option (List ℕ)
schedule_meant_of s =
    if bytes_eq s (codes "@midnight") then Some (codes "@daily")
    else (if bytes_eq s (codes "@annually") then Some (codes "@yearly") else None)

unfoldable pub context_meant_of : List ℕ → Option (List ℕ)
context_meant_of s =
    if bytes_eq s (codes "execution_date") then Some (codes "logical_date")
    else (if bytes_eq s (codes "ts") then Some (codes "logical_date")
    else (if bytes_eq s (codes "next_execution_date") then Some (codes "data_interval_end")
    else None))

-- what is meant by a word that this format has under another name
abbrev pub meant_name_of : Form → List ℕ → Option (List ℕ)
meant_name_of NoGraphKey s = graph_key_meant_of s
meant_name_of NoTaskKey s = task_key_meant_of s
meant_name_of Rule s = rule_meant_of s
meant_name_of Schedule s = schedule_meant_of s
meant_name_of Context s = context_meant_of s
meant_name_of _ s = None

-- ---- the names that there are

-- the names that the format itself has for a form
abbrev pub fixed_names_of : Form → List (List ℕ)
fixed_names_of NoGraphKey = map graph_key_name graph_keys
fixed_names_of NoTaskKey = map task_key_name task_keys
fixed_names_of Schedule =
    codes "@hourly" ∷ codes "@daily" ∷ codes "@weekly" ∷ codes "@monthly" ∷ codes "@quarterly"
    ∷ codes "@yearly" ∷ []
fixed_names_of Zone = codes "UTC" ∷ codes "file" ∷ []
fixed_names_of Rule =
    codes "all_success" ∷ codes "all_failed" ∷ codes "all_skipped" ∷ codes "all_done"
    ∷ codes "one_success" ∷ codes "one_failed" ∷ codes "one_done"
    ∷ codes "none_failed" ∷ codes "none_failed_min_one_success" ∷ codes "none_skipped"
    ∷ codes "always" ∷ []
fixed_names_of Kind = codes "program" ∷ codes "branch" ∷ []
fixed_names_of WeightRule = codes "downstream" ∷ codes "upstream" ∷ codes "absolute" ∷ []
fixed_names_of Context =
    codes "logical_date" ∷ codes "data_interval_start" ∷ codes "data_interval_end"
    ∷ codes "dag_id" ∷ codes "task_id" ∷ codes "map_index" ∷ codes "try_number" ∷ []
fixed_names_of _ = []

abbrev pub id_of_text : List ℕ → Option (List ℕ)
id_of_text s = if is_id_in s then Some s else None

-- the id of a task, where it has one
abbrev pub id_known : Data → Option (List ℕ)
id_known task = option_and_then id_of_text (id_in task)

-- the ids of the tasks
abbrev pub ids_of : Data → List (List ℕ)
ids_of d = filter_map id_known (tasks_at d)

abbrev pub pool_names_that_are_ids_of : Members → List (List ℕ)
pool_names_that_are_ids_of no_members = []
pool_names_that_are_ids_of (member name d ms) = cons_option (id_of_text name) (pool_names_that_are_ids_of ms)

abbrev pub pools_or_none : Option Members → List (List ℕ)
pools_or_none None = []
pools_or_none (Some ms) = pool_names_that_are_ids_of ms

-- those whose names are ids, and the default pool
abbrev pub pool_names_of : Data → List (List ℕ)
pool_names_of d = pools_or_none (pools_at d) ++ codes "default_pool" ∷ []

-- the names that may stand where a form may, or that are known for its keys
abbrev pub names_of : Data → Form → List (List ℕ)
names_of d TaskId = ids_of d
names_of d PoolName = pool_names_of d
names_of d form = fixed_names_of form
