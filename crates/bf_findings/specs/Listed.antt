-- The places of a document.
use Rattle.std.specs.Prelude.{ℕ, ◌+◌, List, [], ◌∷◌, ◌++◌, map, filter_map, if◌then◌else◌, Option, Some, None, is_some, option_and_then}
use Rattle.serde_json.specs.Data.{Data, Members, no_members, member}
use Rattle.serde_json.specs.Find.{get, as_array, as_object}
use Rattle.bf_read.specs.Keys.{task_key_name, graph_keys, task_keys, is_graph_key_in, is_task_key_in}
use Rattle.bf_findings.specs.declared.place.DocumentPlace.{DocumentPlace}
use Rattle.bf_findings.specs.declared.place.DocumentPlace.TheVariants as place
use Rattle.bf_findings.specs.declared.place.WordKey.{WordKey}
use Rattle.bf_read.specs.declared.keys.TaskKey.{TaskKey}
use Rattle.bf_read.specs.declared.keys.TaskKey.TheVariants as key
use Rattle.bf_findings.specs.Places.{word_key_name, word_keys}
use Rattle.bf_findings.specs.Fitting.{pools_at, tasks_at, items_or_none}

abbrev pub graph_key_places : List DocumentPlace
graph_key_places = map place.Key graph_keys

abbrev pub task_key_places : ℕ → List DocumentPlace
task_key_places n = map (place.TaskKey n) task_keys

-- the keys that graph files don't have
abbrev pub other_keys : Members → List DocumentPlace
other_keys no_members = []
other_keys (member name d ms) =
    if is_graph_key_in name then other_keys ms else (place.OtherKey name ∷ other_keys ms)

-- the pools
abbrev pub pools_of : Members → List DocumentPlace
pools_of no_members = []
pools_of (member name d ms) = place.Pool name ∷ pools_of ms

abbrev pub pools_if_any : Option Members → List DocumentPlace
pools_if_any None = []
pools_if_any (Some ms) = pools_of ms

-- the keys that tasks don't have
abbrev pub other_task_keys : ℕ → Members → List DocumentPlace
other_task_keys n no_members = []
other_task_keys n (member name d ms) =
    if is_task_key_in name then other_task_keys n ms
    else (place.OtherTaskKey n name ∷ other_task_keys n ms)

-- the items of the list under a key of a task
abbrev pub items_in : Data → TaskKey → List Data
items_in task named = items_or_none (option_and_then as_array (get (task_key_name named) task))

-- the upstreams from the i-th on
abbrev pub upstreams : ℕ → ℕ → List Data → List DocumentPlace
upstreams n i [] = []
upstreams n i (d ∷ ds) = place.Upstream n i ∷ upstreams n (i + 1) ds

-- a key of a word, where the word has it
abbrev pub word_key : ℕ → ℕ → Data → WordKey → Option DocumentPlace
word_key n i d key =
    if is_some (get (word_key_name key) d) then Some (place.WordKey n i key) else None

abbrev pub word_keys_of : ℕ → ℕ → Data → List DocumentPlace
word_keys_of n i d = filter_map (word_key n i d) word_keys

-- the words from the i-th on, each with its keys
abbrev pub words : ℕ → ℕ → List Data → List DocumentPlace
words n i [] = []
words n i (d ∷ ds) = place.Word n i ∷ (word_keys_of n i d ++ words n (i + 1) ds)

abbrev pub members_of_task : ℕ → Data → Option Members → List DocumentPlace
members_of_task n d None = []
members_of_task n d (Some ms) = task_key_places n
    ++ (other_task_keys n ms ++ (upstreams n 0 (items_in d key.Upstream)
    ++ words n 0 (items_in d key.Command)))

-- the task behind n others: its keys, those that tasks don't have, its upstreams and its words
abbrev pub task_places : ℕ → Data → List DocumentPlace
task_places n d = place.Task n ∷ members_of_task n d (as_object d)

-- the tasks from the n-th on
abbrev pub tasks : ℕ → List Data → List DocumentPlace
tasks n [] = []
tasks n (d ∷ ds) = task_places n d ++ tasks (n + 1) ds

abbrev pub members_of_graph : Data → Option Members → List DocumentPlace
members_of_graph d None = []
members_of_graph d (Some ms) =
    graph_key_places ++ (other_keys ms ++ pools_if_any (pools_at d))

-- the places of a document before its tasks: its keys, those that graph files don't have, and its pools
abbrev pub head_places : Data → List DocumentPlace
head_places d = place.Top ∷ members_of_graph d (as_object d)

-- and all its places
abbrev pub places_in : Data → List DocumentPlace
places_in d = head_places d ++ tasks 0 (tasks_at d)
