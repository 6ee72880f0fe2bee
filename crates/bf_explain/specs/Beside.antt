-- What is told of a task in a run beside why: what one instance was given and pushed, and the tasks beside it.
use Rattle.std.specs.Prelude.{ℕ, ◌-◌, max, List, [], ◌∷◌, ◌++◌, Option, None, Some, codes, fold, length, map, slice_get}
use Rattle.std.specs.List.{repeat}
use Rattle.bf_core.specs.Terms.{Counts, Dag, Xval}
use Rattle.bf_core.specs.Deciding.{counts_of_results_of}
use Rattle.bf_report.specs.Report.{state_word}
use Rattle.bf_report.specs.declared.report.InstanceReport.{InstanceReport}
use Rattle.bf_report.specs.declared.report.Pull.{Pull}
use Rattle.bf_report.specs.declared.report.TaskReport.{TaskReport}
use Rattle.bf_xcom.specs.Pulls.{pushed_by}
use Rattle.bf_wording.specs.Numbers.{count_text_of}
use Rattle.bf_why.specs.Counted.{counts_text_of}
use Rattle.bf_why.specs.Decided.{id_of}
use Rattle.bf_wording.specs.Values.{value_text_of}

-- ---- what an instance was given

abbrev pub item_lines : Option Xval → List (List ℕ)
item_lines None = []
item_lines (Some item) = (codes "item  " ++ value_text_of 4_096 (Some item)) ∷ []

abbrev pub pull_line_of : Pull → List ℕ
pull_line_of pull = codes "pulled " ++ (pull.task ++ (codes "  " ++ value_text_of 4_096 pull.value))

abbrev pub given_lines_of : InstanceReport → List (List ℕ)
given_lines_of instance = item_lines instance.item ++ map pull_line_of instance.pulls

abbrev pub value_line : Option Xval → List (List ℕ)
value_line None = []
value_line (Some value) = value_text_of 4_096 (Some value) ∷ []

-- what it pushed, if it pushed something
abbrev pub pushed_lines_of : InstanceReport → List (List ℕ)
pushed_lines_of instance = value_line (pushed_by instance.result.outcome)

-- ---- the tasks beside it

abbrev pub instances_text_of : ℕ → Counts → List ℕ
instances_text_of instances counts =
    count_text_of instances (codes "instance") ++ (codes ", " ++ counts_text_of counts)

-- the state of a task, and of an expanded one that ran how many instances are in each
abbrev pub state_text_of : Option TaskReport → List ℕ
state_text_of None = codes "no_status"
state_text_of (Some TaskReport.NoStatus) = codes "no_status"
state_text_of (Some TaskReport.Skipped) = codes "skipped"
state_text_of (Some TaskReport.UpstreamFailed) = codes "upstream_failed"
state_text_of (Some (TaskReport.Ran instance)) = state_word instance.result.outcome
state_text_of (Some (TaskReport.Mapped instances)) =
    instances_text_of (length instances)
    (counts_of_results_of (map (λ instance. instance.result) instances))

-- how long the longest id is
abbrev pub id_width_of : Dag → List ℕ → ℕ
id_width_of dag tasks = fold (λ width task. max width (length (id_of dag task))) 0 tasks

abbrev pub padded_of : ℕ → List ℕ → List ℕ
padded_of width id = id ++ repeat (width - length id) (32 ∷ [])

abbrev pub task_line_of : Dag → List TaskReport → ℕ → ℕ → List ℕ
task_line_of dag tasks width task =
    padded_of width (id_of dag task) ++ (codes "  " ++ state_text_of (slice_get tasks task))

-- a line for each of these tasks, with its state
abbrev pub task_lines_of : Dag → List TaskReport → List ℕ → List (List ℕ)
task_lines_of dag tasks beside = map (task_line_of dag tasks (id_width_of dag beside)) beside
