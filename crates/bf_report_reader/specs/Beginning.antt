-- A report as far as it was read, and what may stand next.
use Rattle.std.specs.Prelude.{ℕ, zero, suc, ◌+◌, ◌==◌, ◌&&◌, ◌||◌, nat_lt, not, if◌then◌else◌, Bool, true, false, List, [], ◌∷◌, ◌++◌, length, Option, Some, None, is_some, option_map, slice_get}
use Rattle.std.specs.List.{list_any}
use Rattle.std.specs.Str.{bytes_eq}
use Rattle.bf_plan.specs.Ids.{is_id_in}
use Rattle.bf_value.specs.declared.xval.Xval.{Xval}
use Rattle.bf_xcom.specs.declared.values.TaskResult.{TaskResult}
use Rattle.bf_report.specs.declared.report.Version.{Version}
use Rattle.bf_report.specs.declared.report.InstanceReport.{InstanceReport}
use Rattle.bf_report.specs.declared.report.TaskReport.{TaskReport}
use Rattle.bf_report.specs.declared.report.RunReport.{RunReport}
use Rattle.bf_report_reader.specs.declared.entry.Untried.{Untried}
use Rattle.bf_report_reader.specs.declared.entry.Entry.{Entry}
use Rattle.bf_report_reader.specs.Open.{OpenTask}
use Rattle.bf_report_reader.specs.declared.open.OpenRun.{OpenRun}
use Rattle.bf_report_reader.specs.declared.beginning.ReportSoFar.{ReportSoFar}

-- ---- what was read

-- the task of these instances: the ones before the last, where it is expanded, and the last
abbrev pub task_with : Option (List InstanceReport) → InstanceReport → TaskReport
task_with None instance = TaskReport.Ran instance
task_with (Some instances) instance = TaskReport.Mapped (instances ++ instance ∷ [])

-- the task that may have more lines
abbrev pub open_task : Option OpenTask → List TaskReport
open_task None = []
open_task (Some task) = task_with task.before task.instance ∷ []

-- the tasks of a run so far, and how many they are
abbrev pub tasks_in : OpenRun → List TaskReport
tasks_in open_run = open_run.run.tasks ++ open_task open_run.task

abbrev pub open_count : Option OpenTask → ℕ
open_count None = 0
open_count (Some task) = 1

abbrev pub task_count_of : OpenRun → ℕ
task_count_of open_run = length open_run.run.tasks + open_count open_run.task

abbrev pub closed : OpenRun → RunReport
closed open_run = record open_run.run { tasks = tasks_in open_run }

-- ---- what an instance was given

-- an item stands only in version 2, and there behind each instance of an expanded task
abbrev pub tells_item : Version → Bool → Bool
tells_item Version.One expanded = false
tells_item Version.Two expanded = expanded

-- how many pulls an instance may have
abbrev pub most_told : Version → ℕ
most_told Version.One = 0
most_told Version.Two = 16

-- the item is there, where one is told
abbrev pub has_item : Bool → Option Xval → Bool
has_item is_told item = is_some item || not is_told

abbrev pub lacks_no_item : Version → OpenTask → Bool
lacks_no_item version task = has_item (tells_item version (is_some task.before)) task.instance.item

-- an instance of which its own line was read
abbrev pub untold : TaskResult → InstanceReport
untold result = record { result = result; item = None; pulls = [] }

-- ---- what may stand next

-- the instance that was read last has its item, where one is told
abbrev pub is_given_task : Version → Option OpenTask → Bool
is_given_task version None = true
is_given_task version (Some task) = lacks_no_item version task

abbrev pub is_given_in : Version → Option OpenRun → Bool
is_given_in version None = true
is_given_in version (Some open_run) = is_given_task version open_run.task

abbrev pub has_its_item_at : ReportSoFar → Bool
has_its_item_at beginning = is_given_in beginning.version beginning.run

-- the task of that number has this id
abbrev pub is_text : Option (List ℕ) → List ℕ → Bool
is_text None id = false
is_text (Some task) id = bytes_eq task id

-- an id that isn't there yet
abbrev pub is_new_id_in : List (List ℕ) → List ℕ → Bool
is_new_id_in tasks id =
    (is_id_in id && nat_lt (length tasks) 2_000) && not (list_any (λ task. bytes_eq task id) tasks)

-- in the first run a task that isn't there yet, in the others the next one
abbrev pub is_next_in : List RunReport → List (List ℕ) → Option OpenRun → List ℕ → Bool
is_next_in runs tasks None id = false
is_next_in [] tasks (Some open_run) id = is_new_id_in tasks id
is_next_in (first ∷ rest) tasks (Some open_run) id =
    is_text (slice_get tasks (task_count_of open_run)) id

abbrev pub is_next_id_at : ReportSoFar → List ℕ → Bool
is_next_id_at beginning id =
    has_its_item_at beginning && is_next_in beginning.runs beginning.tasks beginning.run id

abbrev pub ids_with : List RunReport → List (List ℕ) → List ℕ → List (List ℕ)
ids_with [] tasks id = tasks ++ id ∷ []
ids_with (first ∷ rest) tasks id = tasks

-- the next instance of the expanded task that stands last
abbrev pub is_further : Option (List InstanceReport) → ℕ → Bool
is_further None index = false
is_further (Some instances) index = length instances + 1 == index

abbrev pub is_further_task : Option OpenTask → ℕ → Bool
is_further_task None index = false
is_further_task (Some task) index = is_further task.before index

abbrev pub goes_on_in : List (List ℕ) → Option OpenRun → List ℕ → ℕ → Bool
goes_on_in tasks None id index = false
goes_on_in tasks (Some open_run) id index =
    is_further_task open_run.task index && is_text (slice_get tasks (length open_run.run.tasks)) id

abbrev pub is_next_instance_at : ReportSoFar → List ℕ → ℕ → Bool
is_next_instance_at beginning id index =
    has_its_item_at beginning && goes_on_in beginning.tasks beginning.run id index

-- a task without a try
abbrev pub never_report : Untried → TaskReport
never_report Untried.NoStatus = TaskReport.NoStatus
never_report Untried.Skipped = TaskReport.Skipped
never_report Untried.UpstreamFailed = TaskReport.UpstreamFailed

-- a task by its first instance
abbrev pub opened_by : Bool → TaskResult → OpenTask
opened_by false result = record { before = None; instance = untold result }
opened_by true result = record { before = Some []; instance = untold result }

-- ---- what is read then

abbrev pub put_task : Option OpenRun → TaskReport → Option OpenRun
put_task None task = None
put_task (Some open_run) task =
    Some (record {
      run = record open_run.run { tasks = tasks_in open_run ++ task ∷ [] };
      task = None;
    })

abbrev pub put_open : Option OpenRun → OpenTask → Option OpenRun
put_open None task = None
put_open (Some open_run) task = Some (record { run = closed open_run; task = Some task })

abbrev pub further : OpenTask → TaskResult → OpenTask
further task result =
    record {
      before = option_map (λ instances. instances ++ task.instance ∷ []) task.before;
      instance = untold result;
    }

abbrev pub put_further : Option OpenRun → TaskResult → Option OpenRun
put_further None result = None
put_further (Some open_run) result =
    Some (record open_run { task = option_map (λ task. further task result) open_run.task })

abbrev pub with_task : ReportSoFar → List ℕ → TaskReport → Option ReportSoFar
with_task beginning id task =
    if is_next_id_at beginning id then Some
    (record beginning {
      tasks = ids_with beginning.runs beginning.tasks id;
      run = put_task beginning.run task;
    }) else None

abbrev pub with_open : ReportSoFar → List ℕ → OpenTask → Option ReportSoFar
with_open beginning id task =
    if is_next_id_at beginning id then Some
    (record beginning {
      tasks = ids_with beginning.runs beginning.tasks id;
      run = put_open beginning.run task;
    }) else None

abbrev pub with_further : ReportSoFar → List ℕ → ℕ → TaskResult → Option ReportSoFar
with_further beginning id index result =
    if is_next_instance_at beginning id index
    then Some (record beginning { run = put_further beginning.run result }) else None

-- what a line says of a task
unfoldable pub with_entry : ReportSoFar → List ℕ → Entry → Option ReportSoFar
with_entry beginning id (Entry.Never untried) = with_task beginning id (never_report untried)
with_entry beginning id (Entry.Tried None result) = with_open beginning id (opened_by false result)
with_entry beginning id (Entry.Tried (Some zero) result) =
    with_open beginning id (opened_by true result)
with_entry beginning id (Entry.Tried (Some (suc before)) result) =
    with_further beginning id (suc before) result
