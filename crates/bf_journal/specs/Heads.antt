-- The head of a journal.
use Rattle.std.specs.Prelude.{ℕ, ℤ, pos, List, [], ◌∷◌, ◌++◌, map, codes, Option, None, Some}
use Rattle.bf_value.specs.declared.xval.Xval.{Xval}
use Rattle.bf_value.specs.declared.xval.Xval.TheVariants.{Int, Text}
use Rattle.bf_value.specs.Views.{list_of}
use Rattle.bf_value.specs.Json.{json_of}
use Rattle.bf_plan.specs.declared.plan.Dag.{Dag}
use Rattle.bf_plan.specs.declared.plan.Task.{Task}
use Rattle.bf_plan.specs.Plans.{task_of}
use Rattle.bf_interval.specs.declared.interval.Interval.{Interval}
use Rattle.bf_moment.specs.Moment.{moment_text}
use Rattle.bf_journal.specs.declared.head.ClearedTask.{ClearedTask}

abbrev pub id_value : Dag → ℕ → Xval
id_value dag task = Text (task_of dag task).id

-- a task, and the tasks that it pulls from
abbrev pub task_value : Dag → Task → Xval
task_value dag task = list_of (Text task.id ∷ map (id_value dag) task.pulls)

-- where a data interval starts and ends
abbrev pub interval_value : Interval → Xval
interval_value interval =
    list_of (Text (moment_text interval.start.nanosecond)
    ∷ Text (moment_text interval.end.nanosecond) ∷ [])

-- a map index, where there is one
abbrev pub index_fields : Option ℤ → List Xval
index_fields None = []
index_fields (Some index) = Int index ∷ []

-- a task, the start of the run in which it is cleared, and the map index where an instance is
abbrev pub seed_value : ClearedTask → Xval
seed_value seed =
    list_of (Text seed.task ∷ Text (moment_text seed.run.at.nanosecond) ∷ index_fields seed.index)

-- what is cleared, where something is
abbrev pub seed_fields : List ClearedTask → List Xval
seed_fields [] = []
seed_fields (seed ∷ seeds) = list_of (map seed_value (seed ∷ seeds)) ∷ []

-- the words, the version, the dag id, the tasks, the runs, and what is cleared
abbrev pub head_value : Dag → List Interval → List ClearedTask → Xval
head_value dag intervals seeds =
    list_of ((Text (codes "backfill journal") ∷ Int (pos 1) ∷ Text dag.id
    ∷ list_of (map (task_value dag) dag.tasks)
    ∷ list_of (map interval_value intervals) ∷ []) ++ seed_fields seeds)

-- the first line of a journal
unfoldable pub head_text : Dag → List Interval → List ClearedTask → List ℕ
head_text dag intervals seeds = json_of (head_value dag intervals seeds) ++ 10 ∷ []
