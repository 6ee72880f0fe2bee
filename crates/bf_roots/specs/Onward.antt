-- What began at a place, and where the walk goes on from there.
use Rattle.std.specs.Prelude.{ℕ, ◌-◌, ◌&&◌, not, Bool, true, false, if◌then◌else◌, List, [], ◌∷◌, filter, map, Option, None, Some, is_none, is_some, slice_get}
use Rattle.std.specs.Char.{is_ascii_digit}
use Rattle.bf_core.specs.Terms.{Dag, Rule, task_of}
use Rattle.bf_core.specs.Deciding.{branch_is, branch_skips, is_blocked_in}
use Rattle.bf_report.specs.declared.report.TaskReport.{TaskReport}
use Rattle.bf_report.specs.declared.report.Report.{Report}
use Rattle.bf_reason.specs.declared.cause.StateCause.{StateCause}
use Rattle.bf_reason.specs.Causes.{cause_of}
use Rattle.bf_reason.specs.Letters.{letter_for}
use Rattle.bf_reason.specs.Reasons.{reason}
use Rattle.bf_reason.specs.Runs.{tasks_in, tasks_before}
use Rattle.bf_reason.specs.Settled.{before_among, seen_among, value_among}
use Rattle.bf_why.specs.Since.{failures, has_instance_of, skips}
use Rattle.bf_why.specs.declared.states.States.{States}
use Rattle.bf_roots.specs.declared.step.Began.{Began}
use Rattle.bf_roots.specs.declared.step.Root.{Root}
use Rattle.bf_roots.specs.declared.step.WalkStep.{WalkStep}

abbrev pub is_tried_in : TaskReport → Bool
is_tried_in (TaskReport.Ran instance) = true
is_tried_in (TaskReport.Mapped instances) = true
is_tried_in told = false

-- ---- what began at a place

-- of a task that ran: an instance failed, or else one exited with 99
abbrev pub began_by_end_in : List TaskReport → ℕ → Option Began
began_by_end_in tasks task =
    if has_instance_of tasks failures task then Some Began.Failed
    else (if has_instance_of tasks skips task then Some Began.Exited else None)

abbrev pub began_if_tried : List TaskReport → ℕ → Option TaskReport → Option Began
began_if_tried tasks task None = None
began_if_tried tasks task (Some told) = if is_tried_in told then began_by_end_in tasks task else None

abbrev pub began_in : List TaskReport → ℕ → Option Began → Option Began
began_in tasks task (Some began) = Some began
began_in tasks task None = began_if_tried tasks task (slice_get tasks task)

abbrev pub root_of : WalkStep → Option Began → List Root
root_of step None = []
root_of step (Some began) = record { run = step.run; task = step.task; began = began } ∷ []

-- the root that is there, if one is
abbrev pub roots_among : List TaskReport → WalkStep → List Root
roots_among tasks step = root_of step (began_in tasks step.task step.began)

abbrev pub roots_at : Report → WalkStep → List Root
roots_at report step = roots_among (tasks_in report step.run) step

-- ---- where it goes on

-- the states of upstreams for which a rule skips; those of a success lead no further
abbrev pub skipping_states_of : Rule → States
skipping_states_of Rule.AllSuccess = skips
skipping_states_of Rule.AllFailed = skips
skipping_states_of Rule.AllSkipped = failures
skipping_states_of Rule.OneSuccess = skips
skipping_states_of Rule.OneDone = record skips { upstream_failed = true }
skipping_states_of Rule.NoneFailedMinOneSuccess = skips
skipping_states_of Rule.NoneSkipped = skips
skipping_states_of rule = record skips { skipped = false }

abbrev pub tasks_of_option_of : Option ℕ → List ℕ
tasks_of_option_of None = []
tasks_of_option_of (Some task) = task ∷ []

-- the tasks that made it so, by the cause
abbrev pub next_tasks_of : Dag → List TaskReport → ℕ → StateCause → List ℕ
next_tasks_of dag tasks task StateCause.NotFollowed =
    filter (λ u. branch_is dag (branch_skips dag task u) u (Some (value_among tasks u)))
    (task_of dag task).upstreams
next_tasks_of dag tasks task StateCause.BranchIsBlocked =
    filter (λ u. branch_is dag is_blocked_in u (Some (value_among tasks u)))
    (task_of dag task).upstreams
next_tasks_of dag tasks task StateCause.UpstreamIsBlocked =
    filter (λ u. is_blocked_in (value_among tasks u)) (task_of dag task).upstreams
next_tasks_of dag tasks task StateCause.RuleFails =
    filter (has_instance_of tasks failures) (task_of dag task).upstreams
next_tasks_of dag tasks task StateCause.RuleSkips =
    filter (has_instance_of tasks (skipping_states_of (task_of dag task).rule))
    (task_of dag task).upstreams
next_tasks_of dag tasks task StateCause.PastHasNotPassed = task ∷ []
next_tasks_of dag tasks task StateCause.ItemsAreMissing = tasks_of_option_of (task_of dag task).expand
next_tasks_of dag tasks task StateCause.HasNoItems = tasks_of_option_of (task_of dag task).expand
next_tasks_of dag tasks task cause = []

-- in the same run, and for its past in the run before
abbrev pub next_run_of : ℕ → StateCause → ℕ
next_run_of run StateCause.PastHasNotPassed = run - 1
next_run_of run cause = run

-- it ends at a branch that doesn't follow the task, and at a source without items
abbrev pub began_by_cause_in : StateCause → Option Began
began_by_cause_in StateCause.NotFollowed = Some Began.Pushed
began_by_cause_in StateCause.HasNoItems = Some Began.PushedNoItems
began_by_cause_in cause = None

abbrev pub step_by : ℕ → StateCause → ℕ → WalkStep
step_by run cause task =
    record { run = next_run_of run cause; task = task; began = began_by_cause_in cause }

abbrev pub cause_among : Dag → List TaskReport → List TaskReport → ℕ → ℕ → StateCause
cause_among dag tasks before run task =
    cause_of (reason dag run (seen_among tasks) (before_among before run task) task)

-- it ends at a task that ran, and at one of which the report has what the graph doesn't decide
abbrev pub goes_on_in : Bool → StateCause → TaskReport → Bool
goes_on_in expanded cause told =
    not (is_tried_in told) && not (is_ascii_digit (letter_for expanded cause told))

abbrev pub onward_of : Dag → List TaskReport → ℕ → ℕ → StateCause → TaskReport → List WalkStep
onward_of dag tasks run task cause told =
    if goes_on_in (is_some (task_of dag task).expand) cause told
    then map (step_by run cause) (next_tasks_of dag tasks task cause) else []

abbrev pub onward_if_told : Dag → List TaskReport → List TaskReport → ℕ → ℕ → Option TaskReport
    → List WalkStep
onward_if_told dag tasks before run task None = []
onward_if_told dag tasks before run task (Some told) =
    onward_of dag tasks run task (cause_among dag tasks before run task) told

-- by the tasks of the run, and of the run before
abbrev pub onward_among : Dag → List TaskReport → List TaskReport → WalkStep → List WalkStep
onward_among dag tasks before step =
    if is_none step.began then onward_if_told dag tasks before step.run step.task
    (slice_get tasks step.task) else []

abbrev pub onward : Dag → Report → WalkStep → List WalkStep
onward dag report step =
    onward_among dag (tasks_in report step.run) (tasks_before report step.run) step
