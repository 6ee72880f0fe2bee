-- Places in the document of a graph file, and what stands there.
use Rattle.std.specs.Prelude.{ℕ, List, [], ◌∷◌, ◌++◌, codes, decimal, Option, Some, option_and_then}
use Rattle.serde_json.specs.Data.{Data}
use Rattle.serde_json.specs.Find.{get, at}
use Rattle.bf_read.specs.declared.keys.TaskKey.{TaskKey}
use Rattle.bf_read.specs.Keys.{graph_key_name, task_key_name}
use Rattle.bf_findings.specs.declared.place.WordKey.{WordKey}
use Rattle.bf_findings.specs.declared.place.WordKey.TheVariants.{Context, Pull, Item}
use Rattle.bf_findings.specs.declared.place.DocumentPlace.{DocumentPlace}
use Rattle.bf_findings.specs.declared.place.DocumentPlace.TheVariants as place

abbrev pub word_key_name : WordKey → List ℕ
word_key_name Context = codes "context"
word_key_name Pull = codes "pull"
word_key_name Item = codes "item"

abbrev pub word_keys : List WordKey
word_keys = Context ∷ Pull ∷ Item ∷ []

-- the task that stands behind n others
abbrev pub task_value : Data → ℕ → Option Data
task_value d n = option_and_then (at n) (get (codes "tasks") d)

-- the item that stands behind i others of the list under a task's key
abbrev pub item_value : Data → ℕ → TaskKey → ℕ → Option Data
item_value d n key i =
    option_and_then (at i) (option_and_then (get (task_key_name key)) (task_value d n))

-- what stands at a place
abbrev pub value_in : Data → DocumentPlace → Option Data
value_in d place.Top = Some d
value_in d (place.Key key) = get (graph_key_name key) d
value_in d (place.OtherKey key) = get key d
value_in d (place.Pool name) = option_and_then (get name) (get (codes "pools") d)
value_in d (place.Task n) = task_value d n
value_in d (place.TaskKey n key) = option_and_then (get (task_key_name key)) (task_value d n)
value_in d (place.OtherTaskKey n key) = option_and_then (get key) (task_value d n)
value_in d (place.Upstream n i) = item_value d n TaskKey.Upstream i
value_in d (place.Word n i) = item_value d n TaskKey.Command i
value_in d (place.WordKey n i key) =
    option_and_then (get (word_key_name key)) (item_value d n TaskKey.Command i)

-- the keys that lead there; what is told of an object that it stands in has the path of that object
abbrev pub place_text : DocumentPlace → List ℕ
place_text place.Top = codes "top"
place_text (place.Key key) = graph_key_name key
place_text (place.OtherKey key) = codes "top"
place_text (place.Pool name) = codes "pools"
place_text (place.Task n) = codes "tasks[" ++ decimal n ++ codes "]"
place_text (place.TaskKey n key) = codes "tasks[" ++ decimal n ++ codes "]." ++ task_key_name key
place_text (place.OtherTaskKey n key) = codes "tasks[" ++ decimal n ++ codes "]"
place_text (place.Upstream n i) =
    (codes "tasks[" ++ decimal n ++ codes "].upstream") ++ (codes "[" ++ decimal i ++ codes "]")
place_text (place.Word n i) =
    (codes "tasks[" ++ decimal n ++ codes "].command") ++ (codes "[" ++ decimal i ++ codes "]")
place_text (place.WordKey n i key) =
    (codes "tasks[" ++ decimal n ++ codes "].command")
    ++ (codes "[" ++ decimal i ++ codes "]." ++ word_key_name key)
