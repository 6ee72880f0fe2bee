-- The letters of a page's cells: what a report has of a task in a run, and why.
use Rattle.std.specs.Prelude.{ℕ, zero, suc, ◌+◌, ◌==◌, ◌&&◌, not, Bool, true, false, if◌then◌else◌, List, codes, length, Option, None, Some, is_some}
use Rattle.std.specs.List.{list_any}
use Rattle.std.specs.Str.{byte}
use Rattle.bf_core.specs.Terms.{Dag, Outcome, TaskValue, task_of, is_failed}
use Rattle.bf_core.specs.declared.decision.Decision.{Decision}
use Rattle.bf_core.specs.Deciding.{Seen, settled, decision}
use Rattle.bf_report.specs.declared.report.InstanceReport.{InstanceReport}
use Rattle.bf_report.specs.declared.report.TaskReport.{TaskReport}
use Rattle.bf_report.specs.declared.report.Report.{Report}
use Rattle.bf_clear.specs.Entries.{value_reported_at}
use Rattle.bf_reason.specs.declared.cause.StateCause.{StateCause}
use Rattle.bf_reason.specs.Reasons.{reason}
use Rattle.bf_reason.specs.Causes.{cause_of}

-- how an instance ended, and a success by its first try or a later one
abbrev pub ended_letter_of : Outcome → ℕ → ℕ
ended_letter_of (Outcome.Success value) tries = if tries == 1 then byte "s" else byte "r"
ended_letter_of Outcome.Failed tries = byte "f"
ended_letter_of Outcome.Skipped tries = byte "x"

abbrev pub instance_letter : InstanceReport → ℕ
instance_letter instance = ended_letter_of instance.result.outcome instance.result.tries

-- the first of f, r and s that some instance has, or else x
abbrev pub letter_by_flags_of : Bool → Bool → Bool → ℕ
letter_by_flags_of some_f some_r some_s =
    if some_f then byte "f" else (if some_r then byte "r"
    else (if some_s then byte "s" else byte "x"))

abbrev pub any_letter : ℕ → List InstanceReport → Bool
any_letter letter instances = list_any (λ instance. instance_letter instance == letter) instances

abbrev pub first_letter_of : List InstanceReport → ℕ
first_letter_of instances =
    letter_by_flags_of (any_letter (byte "f") instances) (any_letter (byte "r") instances)
    (any_letter (byte "s") instances)

-- the letter of an expanded task, by the first of its instances' letters, in upper case
abbrev pub uppercase_letter_of : ℕ → ℕ
uppercase_letter_of first =
    if first == byte "f" then byte "F"
    else (if first == byte "r" then byte "R"
    else (if first == byte "s" then byte "S" else byte "X"))

abbrev pub expanded_letter : List InstanceReport → ℕ
expanded_letter instances = uppercase_letter_of (first_letter_of instances)

-- a digit for an outcome, the first for a success
abbrev pub digit_for : ℕ → Outcome → ℕ
digit_for first (Outcome.Success value) = first
digit_for first Outcome.Failed = first + 1
digit_for first Outcome.Skipped = first + 2

-- a digit for an expanded task, by that letter
abbrev pub expanded_digit_of : ℕ → ℕ
expanded_digit_of first =
    if first == byte "f" then byte "8" else (if first == byte "x" then byte "9" else byte "7")

-- of a task that has what doesn't follow from the graph
abbrev pub foreign_letter : TaskReport → ℕ
foreign_letter TaskReport.Skipped = byte "4"
foreign_letter TaskReport.UpstreamFailed = byte "5"
foreign_letter TaskReport.NoStatus = byte "6"
foreign_letter (TaskReport.Ran instance) = digit_for (byte "1") instance.result.outcome
foreign_letter (TaskReport.Mapped instances) = expanded_digit_of (first_letter_of instances)

-- by the cause, where the task has what is decided for it, and is expanded where the graph expands it
abbrev pub letter_for : Bool → StateCause → TaskReport → ℕ
letter_for is_expanded StateCause.NotFollowed TaskReport.Skipped = byte "b"
letter_for is_expanded StateCause.RuleSkips TaskReport.Skipped = byte "k"
letter_for is_expanded StateCause.HasNoItems TaskReport.Skipped = byte "e"
letter_for is_expanded StateCause.RuleFails TaskReport.UpstreamFailed = byte "u"
letter_for is_expanded StateCause.ItemsAreMissing TaskReport.UpstreamFailed = byte "i"
letter_for is_expanded StateCause.BranchIsBlocked TaskReport.NoStatus = byte "q"
letter_for is_expanded StateCause.UpstreamIsBlocked TaskReport.NoStatus = byte "p"
letter_for is_expanded StateCause.PastHasNotPassed TaskReport.NoStatus = byte "n"
letter_for is_expanded (StateCause.Runs count) (TaskReport.Ran instance) =
    if is_expanded then foreign_letter (TaskReport.Ran instance) else instance_letter instance
letter_for is_expanded (StateCause.Runs count) (TaskReport.Mapped instances) =
    if is_expanded && length instances == count then expanded_letter instances
    else foreign_letter (TaskReport.Mapped instances)
letter_for is_expanded cause task = foreign_letter task

-- what is known of the tasks in a run of the report, and of a task in the run before
abbrev pub seen_at : Report → ℕ → ℕ → Seen
seen_at report run task = settled (value_reported_at report run task)

abbrev pub before_at : Report → ℕ → ℕ → Option TaskValue
before_at report zero task = None
before_at report (suc run) task = Some (value_reported_at report run task)

-- of a task that the report has in a run, by this graph
abbrev pub letter_of : Dag → Report → ℕ → ℕ → TaskReport → ℕ
letter_of dag report run task told =
    letter_for (is_some (task_of dag task).expand)
    (cause_of (reason dag run (seen_at report run) (before_at report run task) task)) told

-- ---- what a letter tells

-- the states of a report's tasks; an expanded task that ran failed where an instance did, else succeeded where one did
pub data TaskState : Type 0 where
  success : TaskState
  failed : TaskState
  skipped : TaskState
  upstream_failed : TaskState
  no_status : TaskState

abbrev pub state_of_outcome : Outcome → TaskState
state_of_outcome (Outcome.Success value) = success
state_of_outcome Outcome.Failed = failed
state_of_outcome Outcome.Skipped = skipped

abbrev pub is_one_of : List ℕ → ℕ → Bool
is_one_of letters letter = list_any (λ known. known == letter) letters

-- the state that a letter tells
abbrev pub told_state : ℕ → TaskState
told_state letter =
    if is_one_of (codes "srSR17") letter then success
    else (if is_one_of (codes "fF28") letter then failed
    else (if is_one_of (codes "xbkeX349") letter then skipped
    else (if is_one_of (codes "ui5") letter then upstream_failed else no_status)))

abbrev pub is_success : Outcome → Bool
is_success (Outcome.Success value) = true
is_success Outcome.Failed = false
is_success Outcome.Skipped = false

abbrev pub state_of_instances : List InstanceReport → TaskState
state_of_instances instances =
    if list_any (λ instance. is_failed instance.result.outcome) instances then failed
    else (if list_any (λ instance. is_success instance.result.outcome) instances then success
    else skipped)

abbrev pub state_of : TaskReport → TaskState
state_of TaskReport.NoStatus = no_status
state_of TaskReport.Skipped = skipped
state_of TaskReport.UpstreamFailed = upstream_failed
state_of (TaskReport.Ran instance) = state_of_outcome instance.result.outcome
state_of (TaskReport.Mapped instances) = state_of_instances instances

-- ---- what follows from the graph

-- the task has what is decided for it, and is expanded where the graph expands it
abbrev pub follows : Bool → Decision → TaskReport → Bool
follows is_expanded Decision.Blocked TaskReport.NoStatus = true
follows is_expanded Decision.Skipped TaskReport.Skipped = true
follows is_expanded Decision.UpstreamFailed TaskReport.UpstreamFailed = true
follows is_expanded (Decision.Instances given) (TaskReport.Ran instance) = not is_expanded
follows is_expanded (Decision.Instances given) (TaskReport.Mapped instances) =
    is_expanded && length instances == length given
follows is_expanded decision task = false

-- of a task that the report has in a run, by what it has of the others
abbrev pub follows_in : Dag → Report → ℕ → ℕ → TaskReport → Bool
follows_in dag report run task told =
    follows (is_some (task_of dag task).expand)
    (decision dag run (seen_at report run) (before_at report run task) task) told
