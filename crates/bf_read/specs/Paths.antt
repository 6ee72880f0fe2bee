-- Places in a graph file, as they are printed.
use Rattle.std.specs.Prelude.{ℕ, List, ◌++◌, codes, decimal}
use Rattle.bf_read.specs.Keys.{graph_key_name, task_key_name}
use Rattle.bf_read.specs.declared.path.Path.{Path}
use Rattle.bf_read.specs.declared.path.Path.TheVariants.{Bytes, Top, Key, Task, TaskKey}

-- the keys that lead there; tasks count from 0
abbrev pub path_text : Path → List ℕ
path_text Bytes = codes "bytes"
path_text Top = codes "top"
path_text (Key key) = graph_key_name key
path_text (Task n) = codes "tasks[" ++ decimal n ++ codes "]"
path_text (TaskKey n key) = codes "tasks[" ++ decimal n ++ codes "]." ++ task_key_name key
