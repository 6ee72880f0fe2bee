-- A report as far as it was read, and what may stand next.
use Rattle.std.specs.Prelude.{◌≡◌, ◌≤◌, ℕ, ◌+◌, ◌-◌, ◌*◌, ◌==◌, ◌&&◌, nat_lt, not, if◌then◌else◌, Bool, true, false, List, [], ◌∷◌, ◌++◌, length, Option, Some, None, option_map, int_lt}
use Rattle.std.specs.List.{flat_map, list_any}
use Rattle.std.specs.Str.{bytes_eq}
use Rattle.bf_value.specs.declared.xval.Xval.{Xval}
use Rattle.bf_interval.specs.declared.interval.Interval.{Interval}
use Rattle.bf_report.specs.declared.report.Version.{Version}
use Rattle.bf_report.specs.declared.report.InstanceReport.{InstanceReport}
use Rattle.bf_report.specs.declared.report.RunReport.{RunReport}
use Rattle.bf_report.specs.declared.report.Report.{Report}
use Rattle.bf_report.specs.Report.{head_line, run_text}
use Rattle.bf_report_reader.specs.declared.part.GivenPart.{GivenPart}
use Rattle.bf_report_reader.specs.Open.{OpenTask}
use Rattle.bf_report_reader.specs.declared.open.OpenRun.{OpenRun}
use Rattle.bf_report_reader.specs.declared.beginning.ReportSoFar.{ReportSoFar}
use Rattle.bf_report_reader.specs.Beginning.{closed, task_count_of, most_told, lacks_no_item, has_its_item_at}

-- ---- what was read

abbrev pub last_run : Option OpenRun → List RunReport
last_run None = []
last_run (Some open_run) = closed open_run ∷ []

abbrev pub runs_of : ReportSoFar → List RunReport
runs_of beginning = beginning.runs ++ last_run beginning.run

-- the report of all lines read so far
abbrev pub so_far : ReportSoFar → Report
so_far beginning =
    record {
      version = beginning.version;
      dag_id = beginning.dag_id;
      tasks = beginning.tasks;
      runs = runs_of beginning;
    }

-- the lines that were read
abbrev pub opening_text : Report → List ℕ
opening_text report =
    head_line report.version report.dag_id ++ flat_map (run_text report.tasks) report.runs

-- ---- what an instance was given

-- an item where one is lacking, or a pull behind it, which is none of those before
abbrev pub takes_at : Version → Bool → InstanceReport → GivenPart → Bool
takes_at version complete instance (GivenPart.Item item) = not complete
takes_at version complete instance (GivenPart.Pull pull) =
    (complete && nat_lt (length instance.pulls) (most_told version))
    && not (list_any (λ earlier. bytes_eq earlier.task pull.task) instance.pulls)

-- the instance with a further part of what it was given
abbrev pub with_told : InstanceReport → GivenPart → InstanceReport
with_told instance (GivenPart.Item item) = record instance { item = Some item }
with_told instance (GivenPart.Pull pull) = record instance { pulls = instance.pulls ++ pull ∷ [] }

-- ---- what may stand next

abbrev pub run_count_of : ReportSoFar → ℕ
run_count_of beginning = length beginning.runs + length (last_run beginning.run)

-- each run has all tasks
abbrev pub is_whole_in : Option OpenRun → List (List ℕ) → Bool
is_whole_in None tasks = true
is_whole_in (Some open_run) tasks = task_count_of open_run == length tasks

-- the report may end here, or a new run begin
abbrev pub is_whole_at : ReportSoFar → Bool
is_whole_at beginning = has_its_item_at beginning && is_whole_in beginning.run beginning.tasks

abbrev pub starts_before : Option OpenRun → Interval → Bool
starts_before None interval = true
starts_before (Some open_run) interval =
    int_lt open_run.run.interval.start.nanosecond interval.start.nanosecond

-- a run with this data interval
abbrev pub may_begin_in : ReportSoFar → Interval → Bool
may_begin_in beginning interval =
    (is_whole_at beginning && nat_lt (run_count_of beginning) 4_096)
    && starts_before beginning.run interval

-- a part of what the instance that was read last was given
abbrev pub takes_task : Version → Option OpenTask → GivenPart → Bool
takes_task version None part = false
takes_task version (Some task) part =
    takes_at version (lacks_no_item version task) task.instance part

abbrev pub may_take_part_in : Version → Option OpenRun → GivenPart → Bool
may_take_part_in version None part = false
may_take_part_in version (Some open_run) part = takes_task version open_run.task part

-- ---- what is read then

abbrev pub told : OpenTask → GivenPart → OpenTask
told task part = record task { instance = with_told task.instance part }

abbrev pub put_part : Option OpenRun → GivenPart → Option OpenRun
put_part None part = None
put_part (Some open_run) part =
    Some (record open_run { task = option_map (λ task. told task part) open_run.task })

abbrev pub with_run : ReportSoFar → RunReport → Option ReportSoFar
with_run beginning run =
    if may_begin_in beginning run.interval
    then Some (record beginning {
      runs = runs_of beginning;
      run = Some (record { run = run; task = None });
    }) else None

-- what a line tells of what the last instance was given
abbrev pub with_part : ReportSoFar → GivenPart → Option ReportSoFar
with_part beginning part =
    if may_take_part_in beginning.version beginning.run part
    then Some (record beginning { run = put_part beginning.run part }) else None

-- ---- what is known of a beginning

-- in the first run each task has its id, in the others there are no more tasks than ids
abbrev pub IsCountedIn : List RunReport → List (List ℕ) → Option OpenRun → Type 0
IsCountedIn [] tasks None = tasks ≡ []
IsCountedIn [] tasks (Some open_run) = task_count_of open_run ≡ length tasks
IsCountedIn (first ∷ rest) tasks None = ⊥
IsCountedIn (first ∷ rest) tasks (Some open_run) = task_count_of open_run ≤ length tasks

abbrev pub IsCounted : ReportSoFar → Type 0
IsCounted beginning = IsCountedIn beginning.runs beginning.tasks beginning.run

-- ---- lines

-- how many lines may come at most, by a generous count
abbrev pub item_room : Option Xval → ℕ
item_room None = 1
item_room (Some item) = 0

abbrev pub instance_room : InstanceReport → ℕ
instance_room instance = item_room instance.item + (16 - length instance.pulls)

abbrev pub before_room : Option (List InstanceReport) → ℕ
before_room None = 0
before_room (Some instances) = (1_024 - length instances) * 20

abbrev pub task_room : Option OpenTask → ℕ
task_room None = 0
task_room (Some task) = before_room task.before + instance_room task.instance

abbrev pub open_room : Option OpenRun → ℕ
open_room None = 0
open_room (Some open_run) = (2_000 - task_count_of open_run) * 30_000 + task_room open_run.task

abbrev pub room : ReportSoFar → ℕ
room beginning = (4_096 - run_count_of beginning) * 70_000_000 + open_room beginning.run

abbrev pub IsSmall : ReportSoFar → Type 0
IsSmall beginning = length beginning.tasks ≤ 2_000
