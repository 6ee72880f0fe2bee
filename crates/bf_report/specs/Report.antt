-- Reports as text. The text prints what is there, whatever the version.
use Rattle.std.specs.Prelude.{ℕ, List, [], ◌∷◌, ◌++◌, Option, Some, None, codes, decimal, length}
use Rattle.std.specs.List.{flat_map, join_with_byte, enumerate_from, zip}
use Rattle.bf_value.specs.declared.xval.Xval.{Xval}
use Rattle.bf_value.specs.Json.{json_of}
use Rattle.bf_xcom.specs.declared.values.Outcome.{Outcome}
use Rattle.bf_xcom.specs.declared.values.Outcome.TheVariants.{Success, Failed, Skipped}
use Rattle.bf_xcom.specs.declared.values.TaskResult.{TaskResult}
use Rattle.bf_xcom.specs.declared.values.RunState.{RunState}
use Rattle.bf_report.specs.declared.report.Version.{Version}
use Rattle.bf_report.specs.declared.report.Pull.{Pull}
use Rattle.bf_report.specs.declared.report.InstanceReport.{InstanceReport}
use Rattle.bf_report.specs.declared.report.TaskReport.{TaskReport}
use Rattle.bf_report.specs.declared.report.RunReport.{RunReport}
use Rattle.bf_report.specs.declared.report.Report.{Report}
use Rattle.bf_moment.specs.Moment.{moment_text}

-- a line is its fields, separated by one space, and a line feed
abbrev pub line : List (List ℕ) → List ℕ
line fields = join_with_byte 32 fields ++ 10 ∷ []

-- how an instance ended
abbrev pub state_word : Outcome → List ℕ
state_word (Success value) = codes "success"
state_word Failed = codes "failed"
state_word Skipped = codes "skipped"

-- what it pushed
abbrev pub value_word : Outcome → List ℕ
value_word (Success (Some value)) = json_of value
value_word (Success None) = codes "-"
value_word Failed = codes "-"
value_word Skipped = codes "-"

-- what came of an instance of a task
abbrev pub instance_line : List ℕ → List ℕ → TaskResult → List ℕ
instance_line id index result =
    line (id ∷ index ∷ state_word result.outcome ∷ decimal result.tries ∷ value_word result.outcome
    ∷ [])

-- its item, if it has one
abbrev pub item_line : Option Xval → List ℕ
item_line None = []
item_line (Some item) = line (codes "@item" ∷ json_of item ∷ [])

-- a value, or nothing
abbrev pub pulled_word : Option Xval → List ℕ
pulled_word None = codes "-"
pulled_word (Some value) = json_of value

-- what it pulled from a task
abbrev pub pull_line : Pull → List ℕ
pull_line pull = line (codes "@pull" ∷ pull.task ∷ pulled_word pull.value ∷ [])

-- an instance of a task, with what it was given
abbrev pub instance_text : List ℕ → List ℕ → InstanceReport → List ℕ
instance_text id index instance =
    instance_line id index instance.result
    ++ (item_line instance.item ++ flat_map pull_line instance.pulls)

-- a task that was decided without a try
abbrev pub untried_line : List ℕ → List ℕ → List ℕ
untried_line id state = line (id ∷ codes "-1" ∷ state ∷ codes "0" ∷ codes "-" ∷ [])

-- the instances of an expanded task, by map index from 0
abbrev pub mapped_text : List ℕ → List InstanceReport → List ℕ
mapped_text id instances =
    flat_map (λ pair. instance_text id (decimal pair.0) pair.1) (enumerate_from 0 instances)

-- a task in a run
abbrev pub task_text : List ℕ → TaskReport → List ℕ
task_text id TaskReport.NoStatus = untried_line id (codes "no_status")
task_text id TaskReport.Skipped = untried_line id (codes "skipped")
task_text id TaskReport.UpstreamFailed = untried_line id (codes "upstream_failed")
task_text id (TaskReport.Ran instance) = instance_text id (codes "-1") instance
task_text id (TaskReport.Mapped instances) = mapped_text id instances

-- the tasks of a run, each under its id
abbrev pub tasks_text : List (List ℕ) → List TaskReport → List ℕ
tasks_text ids tasks = flat_map (λ pair. task_text pair.0 pair.1) (zip ids tasks)

abbrev pub run_state_word_of : RunState → List ℕ
run_state_word_of RunState.Success = codes "success"
run_state_word_of RunState.Failed = codes "failed"

abbrev pub run_line : RunReport → List ℕ
run_line run =
    line (codes "@run" ∷ moment_text run.interval.start.nanosecond
    ∷ moment_text run.interval.end.nanosecond ∷ run_state_word_of run.state ∷ [])

-- a run, with the tasks of these ids
abbrev pub run_text : List (List ℕ) → RunReport → List ℕ
run_text ids run = run_line run ++ tasks_text ids run.tasks

abbrev pub version_word_of : Version → List ℕ
version_word_of Version.One = codes "1"
version_word_of Version.Two = codes "2"

abbrev pub head_line : Version → List ℕ → List ℕ
head_line version dag_id = line (codes "@backfill" ∷ version_word_of version ∷ dag_id ∷ [])

-- the head, the runs and the end
abbrev pub report_text : Report → List ℕ
report_text report =
    head_line report.version report.dag_id
    ++ flat_map (run_text report.tasks) report.runs
    ++ line (codes "@end" ∷ decimal (length report.runs) ∷ [])
