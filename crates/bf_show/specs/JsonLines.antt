-- A report as lines of JSON, an object for each task instance.
use Rattle.std.specs.Prelude.{ℕ, List, [], ◌∷◌, ◌++◌, Option, Some, None, codes, negsuc}
use Rattle.std.specs.List.{flat_map, enumerate_from, zip}
use Rattle.serde_json.specs.Data.{Data, null, number, string, object, Num, unsigned, negative, Members, no_members, member}
use Rattle.serde_json.specs.Written.{compact_text}
use Rattle.bf_value.specs.declared.xval.Xval.{Xval}
use Rattle.bf_value.specs.Json.{data_of}
use Rattle.bf_value.specs.Views.{plain_of}
use Rattle.bf_moment.specs.Moment.{moment_text}
use Rattle.bf_xcom.specs.Pulls.{pushed_by}
use Rattle.bf_report.specs.declared.report.Pull.{Pull}
use Rattle.bf_report.specs.declared.report.InstanceReport.{InstanceReport}
use Rattle.bf_report.specs.declared.report.TaskReport.{TaskReport}
use Rattle.bf_report.specs.declared.report.RunReport.{RunReport}
use Rattle.bf_report.specs.declared.report.Report.{Report}
use Rattle.bf_report.specs.Report.{state_word, run_state_word_of}

-- the line of an object with these members
abbrev pub line : Members → List ℕ
line members = compact_text (object members) ++ 10 ∷ []

-- of a run stand its data interval and its state, before these members
abbrev pub run_members : RunReport → Members → Members
run_members run members =
    member (codes "run") (string (moment_text run.interval.start.nanosecond))
    (member (codes "end") (string (moment_text run.interval.end.nanosecond))
    (member (codes "run_state") (string (run_state_word_of run.state)) members))

-- a value, where there is one, before these members
abbrev pub value_members : List ℕ → Option Xval → Members → Members
value_members name None members = members
value_members name (Some value) members = member name (data_of (plain_of value)) members

-- what it pulled, or null
abbrev pub pulled_data : Option Xval → Data
pulled_data None = null
pulled_data (Some value) = data_of (plain_of value)

-- what it pulled, each under the task that it was pulled from
abbrev pub pull_members : List Pull → Members
pull_members [] = no_members
pull_members (pull ∷ pulls) = member pull.task (pulled_data pull.value) (pull_members pulls)

-- what it pulled as one member, where it pulled at all
abbrev pub pulls_members : List Pull → Members
pulls_members [] = no_members
pulls_members (pull ∷ pulls) =
    member (codes "pulls") (object (pull_members (pull ∷ pulls))) no_members

-- how an instance ended, its tries, what it pushed, and what it was given
abbrev pub ended_members : InstanceReport → Members
ended_members instance =
    member (codes "state") (string (state_word instance.result.outcome))
    (member (codes "tries") (number (unsigned instance.result.tries))
    (value_members (codes "value") (pushed_by instance.result.outcome)
    (value_members (codes "item") instance.item (pulls_members instance.pulls))))

-- an instance of a task in a run, with its map index
abbrev pub instance_members : RunReport → List ℕ → Num → InstanceReport → Members
instance_members run id index instance =
    run_members run (member (codes "task") (string id)
    (member (codes "index") (number index) (ended_members instance)))

-- of what isn't expanded
abbrev pub no_index : Num
no_index = negative (negsuc 0)

-- a task that was decided without a try
abbrev pub untried_members : RunReport → List ℕ → List ℕ → Members
untried_members run id state =
    run_members run (member (codes "task") (string id) (member (codes "index") (number no_index)
    (member (codes "state") (string state)
    (member (codes "tries") (number (unsigned 0)) no_members))))

-- the instances of an expanded task, by map index from 0
abbrev pub mapped_lines : RunReport → List ℕ → List InstanceReport → List ℕ
mapped_lines run id instances =
    flat_map (λ pair. line (instance_members run id (unsigned pair.0) pair.1))
    (enumerate_from 0 instances)

-- a task in a run
abbrev pub task_lines : RunReport → List ℕ → TaskReport → List ℕ
task_lines run id TaskReport.NoStatus = line (untried_members run id (codes "no_status"))
task_lines run id TaskReport.Skipped = line (untried_members run id (codes "skipped"))
task_lines run id TaskReport.UpstreamFailed =
    line (untried_members run id (codes "upstream_failed"))
task_lines run id (TaskReport.Ran instance) =
    line (instance_members run id no_index instance)
task_lines run id (TaskReport.Mapped instances) = mapped_lines run id instances

-- these tasks of a run, each under its id
abbrev pub tasks_lines : RunReport → List (List ℕ) → List TaskReport → List ℕ
tasks_lines run ids tasks = flat_map (λ pair. task_lines run pair.0 pair.1) (zip ids tasks)

-- a run, with the tasks of these ids
abbrev pub run_lines : List (List ℕ) → RunReport → List ℕ
run_lines ids run = tasks_lines run ids run.tasks

-- run after run
abbrev pub json_lines : Report → List ℕ
json_lines report = flat_map (run_lines report.tasks) report.runs
