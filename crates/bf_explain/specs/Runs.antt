-- Why a run has its state, and what came of its tasks.
use Rattle.std.specs.Prelude.{ℕ, ◌==◌, ◌&&◌, not, Bool, true, false, if◌then◌else◌, List, [], ◌∷◌, ◌++◌, codes, filter, length}
use Rattle.std.specs.List.{flat_map, list_any}
use Rattle.bf_core.specs.Terms.{Dag, TaskValue}
use Rattle.bf_core.specs.Deciding.{counts_over, is_blocked_in}
use Rattle.bf_moment.specs.Moment.{moment_text}
use Rattle.bf_plan.specs.declared.plan.Task.{Task}
use Rattle.bf_report.specs.Report.{run_state_word_of}
use Rattle.bf_report.specs.declared.report.TaskReport.{TaskReport}
use Rattle.bf_report.specs.declared.report.RunReport.{RunReport}
use Rattle.bf_reason.specs.Settled.{seen_among, value_among}
use Rattle.bf_wording.specs.Lists.{name_list_of}
use Rattle.bf_xcom.specs.declared.values.RunState.{RunState}
use Rattle.bf_why.specs.Counted.{counts_text_of}
use Rattle.bf_why.specs.Decided.{have_no_status_of, id_of}
use Rattle.bf_why.specs.Since.{failures, has_instance_of}
use Rattle.bf_why.specs.declared.states.States.{States}
use Rattle.bf_explain.specs.Beside.{task_lines_of}
use Rattle.bf_explain.specs.Sections.{lines_text_of, section}

-- ---- which tasks

abbrev pub is_upstream_in : ℕ → Task → Bool
is_upstream_in task other = list_any (λ upstream. upstream == task) other.upstreams

-- no task follows it
abbrev pub is_last_in : Dag → ℕ → Bool
is_last_in dag task = not (list_any (is_upstream_in task) dag.tasks)

-- an instance of it failed
abbrev pub only_failed : States
only_failed = record failures { upstream_failed = false }

-- it was not tried, since something failed or has no status
abbrev pub is_not_tried_in : TaskValue → Bool
is_not_tried_in TaskValue.UpstreamFailed = true
is_not_tried_in TaskValue.Blocked = true
is_not_tried_in value = false

-- the ids of those of which this holds
abbrev pub ids_of : Dag → (ℕ → Bool) → List ℕ → List (List ℕ)
ids_of dag holds tasks = flat_map (λ task. if holds task then id_of dag task ∷ [] else []) tasks

-- ---- why

abbrev pub is_or_are_of : ℕ → List ℕ
is_or_are_of count = if count == 1 then codes "is" else codes "are"

abbrev pub last_sentence_of : List (List ℕ) → List (List ℕ)
last_sentence_of names =
    if length names == 0 then []
    else (name_list_of 5 names ++ (codes ", which no task follows, "
    ++ (is_or_are_of (length names) ++ codes " failed or upstream_failed."))) ∷ []

abbrev pub blocked_sentence_of : List (List ℕ) → List (List ℕ)
blocked_sentence_of names = if length names == 0 then [] else have_no_status_of names ∷ []

-- of a state that isn't the one by this graph, which is failed or not: that it doesn't follow, and what would
abbrev pub foreign_run_of : RunState → Bool → List (List ℕ)
foreign_run_of RunState.Success true =
    codes "What the report has doesn't follow from this graph."
    ∷ codes "By this graph it would be failed:" ∷ []
foreign_run_of RunState.Failed false =
    codes "What the report has doesn't follow from this graph."
    ∷ codes "By this graph it would be success:" ∷ []
foreign_run_of state fails = []

-- by the tasks that no task follows and that failed, and by those without a status
abbrev pub run_why_of : RunState → List (List ℕ) → List (List ℕ) → List (List ℕ)
run_why_of state last blocked =
    if length last == 0 && length blocked == 0
    then foreign_run_of state false
    ++ codes "None of the tasks that no task follows is failed or upstream_failed, and every task has a status." ∷ []
    else (foreign_run_of state true ++ last_sentence_of last) ++ blocked_sentence_of blocked

abbrev pub run_why_lines_of : Dag → RunState → List TaskReport → List ℕ → List (List ℕ)
run_why_lines_of dag state tasks order =
    run_why_of state (ids_of dag (λ task. is_last_in dag task && has_instance_of tasks failures task) order)
    (ids_of dag (λ task. is_blocked_in (value_among tasks task)) order)

-- ---- what came of its tasks

abbrev pub counts_lines_of : List TaskReport → List ℕ → List (List ℕ)
counts_lines_of tasks order =
    if length order == 0 then [] else counts_text_of (counts_over (seen_among tasks) order) ∷ []

abbrev pub failed_tasks_of : List TaskReport → List ℕ → List ℕ
failed_tasks_of tasks order = filter (has_instance_of tasks only_failed) order

abbrev pub tasks_not_tried_of : List TaskReport → List ℕ → List ℕ
tasks_not_tried_of tasks order = filter (λ task. is_not_tried_in (value_among tasks task)) order

-- ---- all of it

-- as `run 2024-03-05T00:00:00Z to 2024-03-06T00:00:00Z: failed`
abbrev pub run_heading_of : RunReport → List ℕ
run_heading_of run =
    codes "run " ++ (moment_text run.interval.start.nanosecond
    ++ (codes " to " ++ (moment_text run.interval.end.nanosecond
    ++ (codes ": " ++ run_state_word_of run.state))))

-- over the tasks in this order
abbrev pub run_lines_of : Dag → RunReport → List ℕ → List (List ℕ)
run_lines_of dag run order =
    (((run_heading_of run ∷ [] ++ section (codes "why")
    (run_why_lines_of dag run.state run.tasks order))
    ++ section (codes "task instances") (counts_lines_of run.tasks order))
    ++ section (codes "failed") (task_lines_of dag run.tasks (failed_tasks_of run.tasks order)))
    ++ section (codes "not tried") (task_lines_of dag run.tasks
    (tasks_not_tried_of run.tasks order))

abbrev pub run_text : Dag → RunReport → List ℕ → List ℕ
run_text dag run order = lines_text_of (run_lines_of dag run order)
