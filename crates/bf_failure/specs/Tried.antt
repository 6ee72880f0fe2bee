-- The task and the run of a try, and where its logs stand.
use Rattle.std.specs.Prelude.{◌≡◌, ℕ, ℤ, pos, negsuc, List, [], ◌++◌, codes, Some, decimal, slice_get}
use Rattle.bf_value.specs.declared.name.JobName.{JobName}
use Rattle.bf_plan.specs.declared.plan.Task.{Task}
use Rattle.bf_plan.specs.declared.plan.Dag.{Dag}
use Rattle.bf_moment.specs.Moment.{moment_text}
use Rattle.bf_interval.specs.declared.interval.Interval.{Interval}
use Rattle.bf_words.specs.declared.context.JobContext.{JobContext}

-- the try of this name, of this task in a run of this data interval
pub record IsContext (dag : Dag) (task : Task) (interval : Interval) (name : JobName)
    (context : JobContext) : Type 0 where
  pub starts : context.data_interval_start.at ≡ interval.start
  pub ends : context.data_interval_end.at ≡ interval.end
  pub dag_id : context.dag_id.now ≡ dag.id
  pub task_id : context.task_id.now ≡ task.id
  pub map_index : context.map_index ≡ name.index
  pub try_number : context.try_number ≡ name.attempt

-- the try of this name, of a task and in a run that are there
pub record IsContextOf (dag : Dag) (intervals : List Interval) (name : JobName)
    (context : JobContext) : Type 0 where
  pub task : Task
  pub interval : Interval
  pub task_there : slice_get dag.tasks name.task ≡ Some task
  pub run_there : slice_get intervals name.run ≡ Some interval
  pub is_context : IsContext dag task interval name context

-- the moment of the run, which is its logical date
abbrev pub run_text : JobContext → List ℕ
run_text try = moment_text try.data_interval_start.at.nanosecond

-- of an instance of an expanded task its index, in these words
abbrev pub index_text_of : List ℕ → ℤ → List ℕ → List ℕ
index_text_of before (pos index) behind = before ++ (decimal index ++ behind)
index_text_of before (negsuc n) behind = []

-- the name of the try, as `load 2024-02-14T00:00:00Z index 2 try 1`
abbrev pub try_text_of : JobContext → List ℕ
try_text_of try =
    try.task_id.now ++ (codes " " ++ (run_text try
    ++ (index_text_of (codes " index ") try.map_index []
    ++ (codes " try " ++ decimal try.try_number))))

-- FOLDER/dag=ID/run=MOMENT/task=ID/try=N with this ending, or index=I,try=N of an instance of an expanded task
abbrev pub log_of : List ℕ → JobContext → List ℕ → List ℕ
log_of folder try ending =
    folder ++ (codes "/dag=" ++ (try.dag_id.now
    ++ (codes "/run=" ++ (run_text try ++ (codes "/task=" ++ (try.task_id.now ++ (codes "/"
    ++ (index_text_of (codes "index=") try.map_index (codes ",")
    ++ (codes "try=" ++ (decimal try.try_number ++ ending))))))))))
