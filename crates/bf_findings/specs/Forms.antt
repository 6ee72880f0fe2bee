-- What may stand at a place.
use Rattle.std.specs.Prelude.{ℕ, List, ◌++◌, codes, decimal, Bool, if◌then◌else◌, is_some, option_and_then}
use Rattle.serde_json.specs.Data.{Data}
use Rattle.serde_json.specs.Find.{get}
use Rattle.bf_plan.specs.Ids.{is_id_in}
use Rattle.bf_read.specs.declared.keys.GraphKey.{GraphKey}
use Rattle.bf_read.specs.declared.keys.GraphKey.TheVariants as graph
use Rattle.bf_read.specs.declared.keys.TaskKey.{TaskKey}
use Rattle.bf_read.specs.declared.keys.TaskKey.TheVariants as key
use Rattle.bf_read.specs.Limits.{most_active_runs, most_retries, longest_retry_delay, most_slots, greatest_weight}
use Rattle.bf_findings.specs.declared.place.WordKey.TheVariants as word
use Rattle.bf_findings.specs.declared.place.DocumentPlace.{DocumentPlace}
use Rattle.bf_findings.specs.declared.place.DocumentPlace.TheVariants as place
use Rattle.bf_findings.specs.declared.form.Form.{Form}
use Rattle.bf_findings.specs.declared.form.Form.TheVariants.{Object, NoGraphKey, NoTaskKey, NoPool, NoItem, Id, NewId, Schedule, Zone, Whole, Pools, Tasks, Upstreams, Words, Flag, Rule, Kind, WeightRule, TaskId, PoolName, Word, Context, Item}
use Rattle.bf_findings.specs.Places.{task_value}

-- what may stand under a key of a graph file
abbrev pub graph_form_of : GraphKey → Form
graph_form_of graph.DagId = Id
graph_form_of graph.Schedule = Schedule
graph_form_of graph.Zone = Zone
graph_form_of graph.MaxActiveRuns = Whole 1 most_active_runs
graph_form_of graph.Pools = Pools
graph_form_of graph.Tasks = Tasks

-- what may stand under a key of the task behind n others
abbrev pub task_form_of : ℕ → TaskKey → Form
task_form_of n key.Id = NewId n
task_form_of n key.Upstream = Upstreams
task_form_of n key.Rule = Rule
task_form_of n key.Kind = Kind
task_form_of n key.Command = Words
task_form_of n key.Expand = TaskId
task_form_of n key.DependsOnPast = Flag
task_form_of n key.Retries = Whole 0 most_retries
task_form_of n key.RetryDelay = Whole 0 longest_retry_delay
task_form_of n key.Pool = PoolName
task_form_of n key.PoolSlots = Whole 1 most_slots
task_form_of n key.PriorityWeight = Whole 0 greatest_weight
task_form_of n key.WeightRule = WeightRule

-- the task behind n others is to be expanded
abbrev pub is_expanded_in : Data → ℕ → Bool
is_expanded_in d n = is_some (option_and_then (get (codes "expand")) (task_value d n))

-- what may stand at a place of the document
abbrev pub form_in : Data → DocumentPlace → Form
form_in d place.Top = Object
form_in d (place.Key key) = graph_form_of key
form_in d (place.OtherKey key) = NoGraphKey
form_in d (place.Pool name) = if is_id_in name then Whole 1 most_slots else NoPool
form_in d (place.Task n) = Object
form_in d (place.TaskKey n key) = task_form_of n key
form_in d (place.OtherTaskKey n key) = NoTaskKey
form_in d (place.Upstream n i) = TaskId
form_in d (place.Word n i) = Word
form_in d (place.WordKey n i word.Context) = Context
form_in d (place.WordKey n i word.Pull) = TaskId
form_in d (place.WordKey n i word.Item) = if is_expanded_in d n then Item else NoItem

-- the words for what may stand there, but for the bounds of a number
abbrev pub form_words : Form → List ℕ
form_words Object = codes "has to be an object"
form_words NoGraphKey =
    codes "a graph file has the keys dag_id, schedule, zone, max_active_runs, pools and tasks"
form_words NoTaskKey = codes "a task has the keys id, upstream, rule, kind, command, expand, depends_on_past, retries, retry_delay, pool, pool_slots, priority_weight and weight_rule"
form_words NoPool =
    codes "the name of a pool has 1 to 250 letters, digits, dashes, dots and underscores"
form_words NoItem = codes "a task without the key expand has no item"
form_words Id = codes "has to be an id of 1 to 250 letters, digits, dashes, dots and underscores"
form_words (NewId a) = codes "has to be an id of 1 to 250 letters, digits, dashes, dots and underscores that no task before has"
form_words Schedule = codes "has to be five fields of cron that some day matches, or @hourly, @daily, @weekly, @monthly, @quarterly or @yearly"
form_words Zone = codes "has to be UTC, an offset as +01:00, a rule as CET-1CEST,M3.5.0,M10.5.0/3, or file with a zone file beside it"
form_words (Whole a b) = codes "has to be a whole number"
form_words Pools = codes "has to be an object of names and slots"
form_words Tasks = codes "has to be a list of at most 2000 tasks"
form_words Upstreams = codes "has to be a list of ids of tasks"
form_words Words = codes "has to be a list of at most 64 words"
form_words Flag = codes "has to be true or false"
form_words Rule = codes "has to be all_success, all_failed, all_skipped, all_done, one_success, one_failed, one_done, none_failed, none_failed_min_one_success, none_skipped or always"
form_words Kind = codes "has to be program or branch"
form_words WeightRule = codes "has to be downstream, upstream or absolute"
form_words TaskId = codes "has to be the id of a task"
form_words PoolName = codes "has to be default_pool or a name of pools"
form_words Word =
    codes "has to be a text of at most 4096 bytes, or an object with one key, context, pull or item"
form_words Context = codes "has to be logical_date, data_interval_start, data_interval_end, dag_id, task_id, map_index or try_number"
form_words Item = codes "has to be true"

-- the words
abbrev pub form_text : Form → List ℕ
form_text (Whole least most) =
    codes "has to be a whole number from " ++ decimal least ++ codes " to " ++ decimal most
form_text form = form_words form
